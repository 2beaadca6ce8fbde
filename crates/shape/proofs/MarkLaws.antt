-- Laws for test 7, which marks the rules it has met, and for test 8, which marks the layers. Assumes nothing.
use Rattle.std.specs.Prelude.{◌≡◌, refl, Bool, not, ◌||◌, ◌&&◌, List, ltb, length, get_or, set, Option, None}
use Rattle.std.proofs.Math.Path.{sym, ap, fun_ext}
use Rattle.std.proofs.Common.{◌∙◌, add-one, length-set, get_or-set_other}
use Rattle.std.proofs.Math.Bool.{true, false, and-false, or_comm}
use Rattle.std.proofs.Math.Logic.{by_cases}
use Prim.Native.Nat.{ℕ, ◌+◌, ◌*◌, ◌≤◌, ◌<◌, ◌/◌, ◌%◌}
use Rattle.std.proofs.Math.Decide.{dec_lt, ℕ_discrete}
use native.Mathlib.Omega.{arith}
use borrow.Author.Tests.{lt-ltb, eq-eqb, eqb-true, not-true, not-false}
use Rattle.std.proofs.Math.Dec.{eqb}
use Rattle.std.proofs.Math.Seq.{get_or-set_same}
use Rattle.theory.specs.Bool.{member}
use Rattle.theory.proofs.Bool.Laws.{by_test, not_both, is_false, and_elim, and_intro, or_left, or_right}
use Rattle.theory.specs.Below.{any_below}
use Rattle.theory.specs.Below.Ends.{first_where}
use Rattle.theory.proofs.Below.Laws.{any_elim, any_intro}
use Rattle.theory.proofs.Below.Scan.{first_where-is, first_where-tells, at_end}
use Rattle.bits.specs.Code.{with_if}
use Rattle.bits.specs.Code.Laws.{member_none, single-below}
use Rattle.format.specs.Code.{Value}
use Rattle.format.specs.Format.{rule_p, rule_q, rule_p', rule_q', rule_layer, rule_of}
use Rattle.format.specs.declared.Rule.{Rule}
use Rattle.shape.specs.Shape.{same_before, same_rule, in_layer, repeats}
use Rattle.shape.specs.Code.{same_fields, alike, again, mark_of, used_below}

-- Rule x has been read.
pub alike_read : (rules : List ℕ) (whole : Bool) (x y : Rule) (e : ℕ) (t : Bool) → x ≡ rule_of rules e → t ≡ same_fields whole x y → t ≡ alike rules whole y e
unfolding alike
alike_read rules whole x y e t a h = h ∙ ap (λ v. same_fields whole v y) a

-- The search for an earlier rule that is like rule r, where y is rule r, and m whether its mark is set.
module _ (rules : List ℕ) (whole : Bool) (r : ℕ) (m : Bool) where
  pub not_searched : not m ≡ true → false ≡ (m && again rules whole r)
  not_searched o = rw (not-true m o) refl

  pub like_any : (y : Rule) (t : Bool) → not m ≡ false → y ≡ rule_of rules r → t ≡ any_below r (alike rules whole y) → t ≡ (m && again rules whole r)
  unfolding again
  like_any y t o a h = rw (not-false m o) (h ∙ ap (λ v. any_below r (alike rules whole v)) a)

pub length-kept : (marks : List ℕ) (k w n : ℕ) → length marks ≡ n → length (set marks k w) ≡ n
length-kept marks k w n h = length-set marks k w ∙ h

-- The marks of the rules below n are set: mark k is member k % 64 of word k / 64.
abbrev pub Marked : (ℕ → ℕ) → List ℕ → ℕ → Type 0
Marked mark marks n = (e : ℕ) → e < n → member (get_or marks (mark e / 64) 0) (mark e % 64) ≡ true

module _ (mark : ℕ → ℕ) (marks : List ℕ) where
  pub marked_none : Marked mark marks 0
  marked_none e l = absurd (omega arith)

  pub marked_more : (i k w : ℕ) → Marked mark marks i → Value 4096 (mark i) k → length marks ≡ 64
      → member w ≡ with_if true (k % 64) (get_or marks (k / 64) 0) → Marked mark (set marks (k / 64) w) (i + 1)
  unfolding with_if
  marked_more i k w met v n d e l = by_cases (ℕ_discrete (mark e / 64) (k / 64)) same other
    where
      same : mark e / 64 ≡ k / 64 → member (get_or (set marks (k / 64) w) (mark e / 64) 0) (mark e % 64) ≡ true
      same h =
          rw (h, get_or-set_same marks (k / 64) w 0 (omega (arith, v.small)), d)
          (by_cases (dec_lt e i)
          (λ l. or_left _ _ (ap (λ a. member (get_or marks a 0) (mark e % 64)) (sym h) ∙ met e l))
          (λ g.
          let q : e ≡ i = omega arith in
          or_right (member (get_or marks (k / 64) 0) (mark e % 64)) _
          (ap (λ (A : ℕ → Bool). A (mark e % 64)) (single-below (k % 64) (omega arith))
          ∙ eq-eqb (k % 64) (mark e % 64) (ap (◌% 64) (v.is ∙ ap mark (sym q))))))

      other : (mark e / 64 ≡ k / 64 → ⊥) → member (get_or (set marks (k / 64) w) (mark e / 64) 0) (mark e % 64) ≡ true
      other h =
          rw (get_or-set_other marks (k / 64) (mark e / 64) w 0 h)
          (met e (by_cases (dec_lt e i) (λ l. l) (λ g. absurd (h (let q : e ≡ i = omega arith in ap (◌/ 64) (ap mark q ∙ sym v.is))))))

-- Pairs that the tests find equal are equal.
pub pair_same : (a b c d : ℕ) → eqb a b && eqb c d ≡ true → (a ≡ b) × (c ≡ d)
pair_same a b c d h = let t = and_elim (eqb a b) (eqb c d) h in (eqb-true a b t.0, eqb-true c d t.1)

-- Rules that are alike have the same mark.
module _ (rules : List ℕ) (r e : ℕ) where
  before_same : (whole : Bool) → alike rules whole (rule_of rules r) e ≡ true → (rule_p rules e ≡ rule_p rules r) × (rule_q rules e ≡ rule_q rules r)
  unfolding alike
  before_same whole h = pair_same _ _ _ _ (and_elim (same_before (rule_of rules e) (rule_of rules r)) _ h).0

  after_same : alike rules true (rule_of rules r) e ≡ true → (rule_p' rules e ≡ rule_p' rules r) × (rule_q' rules e ≡ rule_q' rules r)
  unfolding alike
  after_same h = pair_same _ _ _ _ (and_elim (same_before (rule_of rules e) (rule_of rules r)) _ h).1

  same_mark : (whole : Bool) → alike rules whole (rule_of rules r) e ≡ true → mark_of rules whole e ≡ mark_of rules whole r
  same_mark false h = let t = before_same false h in rw (t.0, t.1)
  same_mark true h = let t = before_same true h in let u = after_same h in rw (t.0, t.1, u.0, u.1)

-- A rule whose mark is not set is like none before it: where m is whether it is set, the search by m is the test.
pub mark_tells : (rules : List ℕ) (whole : Bool) (marks : List ℕ) (i k : ℕ) (m t : Bool) → Marked (mark_of rules whole) marks i
    → Value 4096 (mark_of rules whole i) k → m ≡ member (get_or marks (k / 64) 0) (k % 64)
    → t ≡ (m && again rules whole i) → t ≡ again rules whole i
unfolding again
mark_tells rules whole marks i k m t met v d e = e ∙ by_test m (λ u. rw u) (λ u. rw u (sym (new (sym d ∙ u))))
  where
    new : member (get_or marks (k / 64) 0) (k % 64) ≡ false → any_below i (alike rules whole (rule_of rules i)) ≡ false
    new u =
        is_false _
        (λ h.
        let s = any_elim i (alike rules whole (rule_of rules i)) h in
        let q : mark_of rules whole s.0 ≡ k = same_mark rules i s.0 whole s.2 ∙ sym v.is in
        not_both (met s.0 s.1) (rw q u))

-- The mark of a rule, by whether it is of the whole rule.
module _ (rules : List ℕ) (whole : Bool) (r p q : ℕ) (vp : Value 256 (rule_p rules r) p) (vq : Value 256 (rule_q rules r) q) where
  pub whole_mark : (a b : ℕ) → whole ≡ true → Value 256 (rule_p' rules r) a → Value 256 (rule_q' rules r) b
      → Value 4096 (mark_of rules whole r) ((64 * a + b + 709 * p + 1493 * q) % 4096)
  whole_mark a b e va vb = record { is = rw (e, vp.is, vq.is, va.is, vb.is); small = omega arith }

  pub pair_mark : whole ≡ false → Value 4096 (mark_of rules whole r) ((64 * p + q) % 4096)
  pair_mark e = record { is = rw (e, vp.is, vq.is); small = omega arith }

-- ---- Test 7 by two searches: k is the first rule like an earlier one, if any, by before pairs or, if whole, by both pairs.

module _ (rules : List ℕ) (n : ℕ) (k : Option ℕ) where
  -- Where no two rules have one before pair, no two are equal.
  pub pairs_once : k ≡ first_where n (again rules false) → k ≡ None → None ≡ first_where n (repeats rules)
  unfolding again alike repeats
  pairs_once h u =
      first_where-is n (repeats rules) None
      (λ r m.
      is_false _
      (λ e.
      let s = any_elim r (same_rule rules r) e in
      let before = (and_elim (same_before (rule_of rules s.0) (rule_of rules r)) _ s.2).0 in
      not_both
      (any_intro r (alike rules false (rule_of rules r)) s.0 s.1 (and_intro _ true before refl))
      (first_where-tells n (again rules false) None (sym u ∙ h) r m)))

  pub whole_found : k ≡ first_where n (again rules true) → k ≡ first_where n (repeats rules)
  unfolding again alike repeats
  whole_found h = h

-- ---- Test 8

both : (x a e : Bool) → (x && a) || (x && e) ≡ x && (e || a)
both true a e = or_comm a e
both false a e = refl

module _ (rules : List ℕ) where
  pub used_none : member 0 ≡ used_below rules 0
  unfolding used_below any_below
  used_none = fun_ext (λ l. member_none l ∙ sym (and-false (ltb l 64)))

  pub used_more : (r w v k : ℕ) → member w ≡ used_below rules r → Value 256 (rule_layer rules r) k → member v ≡ with_if true k w
      → member v ≡ used_below rules (r + 1)
  unfolding used_below any_below with_if
  used_more r w v k h x d =
      fun_ext
      (λ l.
      ap (λ (A : ℕ → Bool). A l) d
      ∙ ap (λ (A : ℕ → Bool). A l || (ltb l 64 && eqb k l)) h
      ∙ rw (add-one r, x.is) (both (ltb l 64) (any_below r (in_layer rules l)) (eqb (rule_layer rules r) l)))

  pub used_done : (r n w : ℕ) → member w ≡ used_below rules r → r ≤ n → n ≤ r → member w ≡ used_below rules n
  used_done r n w = at_end (used_below rules) r n (member w)

  pub used_is : (n w l : ℕ) (t : Bool) → member w ≡ used_below rules n → l < 64 → t ≡ member w l → t ≡ any_below n (in_layer rules l)
  unfolding used_below
  used_is n w l t h b e = e ∙ ap (λ (A : ℕ → Bool). A l) h ∙ rw (lt-ltb l 64 b)
