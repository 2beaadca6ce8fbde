-- Laws for the functions of the shape. Assumes nothing.
use Rattle.std.specs.Prelude.{◌≡◌, refl, Bool, true, false, not, ◌||◌, ◌&&◌, List, [], ℕ, zero, suc, ◌+◌, ◌-◌, ◌≤◌, ◌<◌, eqb, Option, Some, None, Result, Ok, Err}
use Rattle.std.proofs.Common.{sym, ap, ◌∙◌, arith}
use Rattle.std.specs.Option.{is_some}
use Rattle.std.proofs.Math.Bool.{or-false}
use Rattle.std.proofs.Math.Decide.{dec_lt}
use Rattle.std.proofs.Math.Logic.{by_cases}
use borrow.Author.Tests.{lt-ltb, le-ltb, eq-eqb, ne_eqb, eqb-true, eqb-false}
use Rattle.theory.proofs.Bool.Laws.{by_test, not_both}
use Rattle.theory.specs.Below.{Clear, any_below}
use Rattle.theory.specs.Below.Ends.{first_where}
use Rattle.theory.proofs.Below.Scan.{clear_more, first_where-is, first_where-tells, where_hit, where-end}
use Rattle.format.specs.Format.{sections, sections_of, is_input, rule_of, rule_before}
use Rattle.format.specs.declared.Sizes.{Sizes}
use Rattle.format.specs.declared.Header.{Header}
use Rattle.format.specs.declared.Rule.{Rule}
use Rattle.theory.specs.Judge.{Test, judge, Passes}
use Rattle.theory.proofs.Judge.Laws.{judge_map, judge-passes}
use Rattle.shape.specs.Shape.{bad_record, not_after, in_layer, too_large, bad_state, bad_fields, bad_rule, out_of_order, bad_layer}
use Rattle.shape.specs.Shape.{section_tests, by_shape}
use Rattle.shape.specs.Code.{tested_of, header_in, refusal_of}
use Rattle.refusals.specs.declared.Refusal.{Refusal}
use Rattle.refusals.specs.Refusal.{refusal}
use Rattle.shape.specs.declared.sound.Docket.{Docket}

-- ---- Offsets

-- An offset before the start of a section is not its end; past it, what lies between is the length.
pub before_start : (k n m : ℕ) → k < n → true ≡ not (eqb k (n + m))
before_start k n m h = rw (ne_eqb k (n + m) (λ e. omega arith))

pub past_start : (k n m : ℕ) → n ≤ k → not (eqb (k - n) m) ≡ not (eqb k (n + m))
past_start k n m h =
    ap not
    (by_test (eqb (k - n) m)
    (λ e. let d : k - n ≡ m = eqb-true _ _ e in e ∙ sym (eq-eqb k (n + m) (omega arith)))
    (λ e. e ∙ sym (ne_eqb k (n + m) (λ u. eqb-false (k - n) m e (omega arith)))))

-- ---- The state test

module _ (z : Sizes) (states : List ℕ) where
  bad-below : (s : ℕ) → s < z.states → bad_state z states s ≡ bad_record z states s
  unfolding bad_state
  bad-below s l = rw (lt-ltb s z.states l, ne_eqb s z.states (λ e. omega arith)) (or-false (bad_record z states s))

  bad-end : bad_state z states z.states ≡ not (any_below z.states (is_input z states))
  unfolding bad_state
  bad-end = rw (le-ltb z.states z.states (omega arith), eq-eqb z.states z.states refl)

  -- r is the first state with a bad record, if any.
  module _ (r : Option ℕ) (e : r ≡ first_where z.states (bad_record z states)) where
    pub first-bad_record : is_some r ≡ true → r ≡ first_where (z.states + 1) (bad_state z states)
    first-bad_record u = go r e u
      where
        go : (r : Option ℕ) → r ≡ first_where z.states (bad_record z states) → is_some r ≡ true → r ≡ first_where (z.states + 1) (bad_state z states)
        go (Some s) d v =
            let f = first_where-tells z.states (bad_record z states) (Some s) d in
            first_where-is (z.states + 1) (bad_state z states) (Some s)
            (omega (arith, f.0), bad-below s f.0 ∙ f.1, λ k m. bad-below k (omega (arith, f.0)) ∙ f.2 k m)
        go None d v = absurd (not_both v refl)

    -- There is none, and t is whether there is an input state.
    module _ (t : Bool) (d : t ≡ any_below z.states (is_input z states)) (none : is_some r ≡ false) where
      clear : (k : ℕ) → k < z.states → bad_state z states k ≡ false
      clear = go r e none
        where
          go : (r : Option ℕ) → r ≡ first_where z.states (bad_record z states) → is_some r ≡ false → (k : ℕ) → k < z.states → bad_state z states k ≡ false
          go (Some s) d v k l = absurd (not_both refl v)
          go None d v k l = bad-below k l ∙ first_where-tells z.states (bad_record z states) None d k l

      at_end : bad_state z states z.states ≡ not t
      at_end = bad-end ∙ ap not (sym d)

      pub first-beyond : t ≡ true → None ≡ first_where (z.states + 1) (bad_state z states)
      first-beyond u =
          first_where-is (z.states + 1) (bad_state z states) None
          (λ k m. by_cases (dec_lt k z.states) (clear k)
          (λ g. let q : k ≡ z.states = omega arith in ap (bad_state z states) q ∙ at_end ∙ ap not u))

      pub first_no_input : t ≡ false → Some z.states ≡ first_where (z.states + 1) (bad_state z states)
      first_no_input u =
          first_where-is (z.states + 1) (bad_state z states) (Some z.states) (omega arith, at_end ∙ ap not u, clear)

-- ---- The rule and layer tests

-- The rule x has been read.
pub bad_read : (z : Sizes) (rules : List ℕ) (r : ℕ) (x : Rule) (t : Bool) → x ≡ rule_of rules r → t ≡ bad_fields z x → t ≡ bad_rule z rules r
bad_read z rules r x t e h = h ∙ ap (bad_fields z) e

-- ---- The order test

-- In version 2 it is a test of neighbours.
tried : (z : Sizes) (rules : List ℕ) → z.version ≡ 2 → first_where z.rules (not_after rules) ≡ first_where z.rules (out_of_order z rules)
unfolding out_of_order
tried z rules v = ap (λ t. first_where z.rules (λ r. t && not_after rules r)) (sym (eq-eqb z.version 2 v))

-- The search for a rule out of order has come to rule i: x is the one before it, and no rule below i is out of order.
pub record InOrderTo (rules : List ℕ) (x : Rule) (i : ℕ) : Type 0 where
  pub some : 0 < i
  pub before : x ≡ rule_of rules (i - 1)
  pub clear : Clear (not_after rules) i

pub order_begins : (rules : List ℕ) (x : Rule) → x ≡ rule_of rules 0 → InOrderTo rules x 1
order_begins rules x e = record { some = omega arith; before = e; clear = λ k l. first_rule k (omega arith) }
  where
    first_rule : (k : ℕ) → k ≡ 0 → not_after rules k ≡ false
    first_rule zero e = refl
    first_rule (suc k) e = absurd (omega arith)

-- Rule i is y, and t is whether it comes after x.
module _ (rules : List ℕ) (x y : Rule) (i : ℕ) (t : Bool) (I : InOrderTo rules x i) (e : y ≡ rule_of rules i) (h : t ≡ rule_before x y) where
  read_there : not t ≡ not_after rules i
  read_there = go i I.some I.before e
    where
      go : (k : ℕ) → 0 < k → x ≡ rule_of rules (k - 1) → y ≡ rule_of rules k → not t ≡ not_after rules k
      go zero l b e = absurd (omega arith)
      go (suc k) l b e =
          let one : suc k - 1 ≡ k = omega arith in
          ap not (h ∙ ap (λ v. rule_before v y) (b ∙ ap (rule_of rules) one) ∙ ap (rule_before (rule_of rules k)) e)

  pub order_goes_on : not t ≡ false → InOrderTo rules y (i + 1)
  order_goes_on u = record {
    some = omega arith;
    before = let one : i ≡ i + 1 - 1 = omega arith in e ∙ ap (rule_of rules) one;
    clear = clear_more (not_after rules) i (not t) I.clear read_there u;
  }

  pub order_stops : (z : Sizes) → z.version ≡ 2 → i < z.rules → not t ≡ true → Some i ≡ first_where z.rules (out_of_order z rules)
  order_stops z v l u = where_hit z.rules (not_after rules) i (not t) l I.clear read_there u ∙ tried z rules v

-- At the end, where there are two rules or more, and where there are fewer.
pub order_ends : (z : Sizes) (rules : List ℕ) (x : Rule) (i : ℕ) → z.version ≡ 2 → InOrderTo rules x i → z.rules ≤ i
    → None ≡ first_where z.rules (out_of_order z rules)
order_ends z rules x i v I l = where-end z.rules (not_after rules) i l I.clear ∙ tried z rules v

pub order_untried : (z : Sizes) (rules : List ℕ) → (z.version ≡ 2 → ⊥) → None ≡ first_where z.rules (out_of_order z rules)
unfolding out_of_order
order_untried z rules n =
    where-end z.rules (out_of_order z rules) z.rules (omega arith) (λ k l. rw (ne_eqb z.version 2 n))

pub layer_found : (z : Sizes) (rules layers : List ℕ) (l : ℕ) (t u : Bool) → t ≡ any_below z.rules (in_layer rules l)
    → u ≡ any_below z.states (too_large z.states layers l) → not t || u ≡ bad_layer z rules layers l
unfolding bad_layer
layer_found z rules layers l t u e d = rw (e, d) refl

-- ---- The whole

err_not_ok : {A R : Type 0} {r : R} {a : A} → Err r ≡ Ok a → ⊥
err_not_ok {A} {R} {r} {a} e = let z : ◌≡◌ {A = ℕ} 0 1 = cc in omega arith

-- Where tests are passed none has a bad place.
pub tested_passes : {R : Type 0} (refuse : ℕ → ℕ → R) (ts : List Test) → judge {A = Result (Unit {0}) R} (λ n k. Err (refuse n k)) (Ok tt) ts ≡ Ok tt → Passes ts
tested_passes refuse = judge-passes (λ n k. Err (refuse n k)) (Ok tt) (Ok tt) (λ n k. err_not_ok)

-- What the tests of the sections find, as a shape with header h.
abbrev as_shape : Header → Result (Unit {0}) Refusal → Result Header Refusal
as_shape h (Ok t) = Ok h
as_shape h (Err r) = Err r

module _ (b : List ℕ) (h : Header) (states rules layers : List ℕ) (o : Result (Unit {0}) Refusal)
    (s : states ≡ (sections_of b h).states) (u : rules ≡ (sections_of b h).rules) (l : layers ≡ (sections_of b h).layers)
    (e : o ≡ tested_of h.sizes states rules layers) where
  by_sections : as_shape h o ≡ judge (λ n k. Err (refusal n k)) (Ok h) (section_tests h.sizes (sections_of b h))
  unfolding tested_of
  by_sections =
      rw (← s, ← u, ← l)
      (ap (as_shape h) e
      ∙ judge_map (as_shape h) (λ n k. Err (refusal n k)) (Ok tt)
      (section_tests h.sizes (sections states rules layers [] [])))

  pub sections_refuse : (r : Refusal) (a : Result Header Refusal) → o ≡ Err r → a ≡ Err r
      → a ≡ judge (λ n k. Err (refusal n k)) (Ok h) (section_tests h.sizes (sections_of b h))
  sections_refuse r a v g = g ∙ ap (as_shape h) (sym v) ∙ by_sections

  pub sections_pass : (a : Result Header Refusal) → o ≡ Ok tt → a ≡ Ok h
      → a ≡ judge (λ n k. Err (refusal n k)) (Ok h) (section_tests h.sizes (sections_of b h))
  sections_pass a v g = g ∙ ap (as_shape h) (sym v) ∙ by_sections

-- ---- Callers

-- A caller that takes the shape apart follows by_shape: d is a docket of this shape, or r a refusal.
module _ {A : Type 0} (refuse : Refusal → A) (f : Header → A) (a : A) (s : Result Docket Refusal) (t : Result Header Refusal) (e : header_in s ≡ t) where
  pub sound_then : (d : Docket) → s ≡ Ok d → a ≡ f d.header → a ≡ by_shape refuse f t
  sound_then d u g = g ∙ ap (by_shape refuse f) (ap header_in (sym u) ∙ e)

  pub sound_else : (r : Refusal) → s ≡ Err r → a ≡ refuse r → a ≡ by_shape refuse f t
  sound_else r u g = g ∙ ap (by_shape refuse f) (ap header_in (sym u) ∙ e)

-- A call that returns the refusal q of a refused docket passes it back.
pub passed_back : (s : Result Docket Refusal) (r q : Refusal) → s ≡ Err r → q ≡ refusal_of (header_in s) → s ≡ Err q
passed_back s r q u p = u ∙ ap Err (sym (p ∙ ap (λ x. refusal_of (header_in x)) u))
