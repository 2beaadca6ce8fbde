-- The claims about the order of rules are proved. Assumes nothing.
use Rattle.refusals.specs.Refusal.{refusal}
use Rattle.std.specs.Prelude.{◌≡◌, Bool, true, false, ◌↔◌, ◌⊎◌, eqb, length, get_or, take, drop, Err}
use Rattle.std.proofs.Math.Path.{refl, ap}
use Rattle.std.proofs.Common.{sym, ◌∙◌, inl, inr, add-zero, arith, ext_get_or}
use Rattle.std.proofs.Math.Bool.{not}
use Rattle.std.proofs.lemmas.Bool.{false≢true}
use mathlib.Core.List.{List, [], ◌++◌}
use Rattle.std.proofs.Math.Logic.{⊎_elim, ⊎_map, by_cases}
use Prim.Native.Nat.{ℕ, zero, suc, ◌+◌, ◌*◌, ◌/◌, ◌%◌, ◌<◌}
use Rattle.std.proofs.Math.Decide.{dec_lt}
use borrow.Author.Tests.{eq-eqb, eqb-true, not-true, not-false}
use Rattle.theory.proofs.Bool.Laws.{not_both, is_false, and_intro, and_elim}
use Rattle.theory.specs.Below.{Clear, first_below}
use Rattle.theory.proofs.Below.Laws.{any_intro, first_passes, first-lowest, first_min}
use Rattle.theory.proofs.Below.Scan.{first_clear}
use Rattle.theory.specs.Judge.{Test, Passes, FirstFits}
use Rattle.theory.proofs.Judge.Laws.{fits-here, numbered, fits_past, fits_other}
use Rattle.theory.specs.Protocol.{enabled}
use Rattle.theory.proofs.Protocol.Lists.{fires_rule}
use Rattle.theory.proofs.Ladder.Active.{active_intro}
use Rattle.theory.proofs.Subtree.Laws.{number_12_13}
use Rattle.theory.specs.Machine.{Uses}
use Rattle.theory.specs.Order.{Ascending}
use Rattle.theory.proofs.Order.Laws.{less_elim, less_is, less_irreflexive, less_transitive, less_trichotomous, ascends, Among, same_length, same_members}
use Rattle.format.specs.Format.{header_of, sections_of, rule_of, rule_key, protocol_in, layers_in}
use Rattle.format.specs.declared.Header.{Header}
use Rattle.format.specs.declared.Rule.{Rule}
use Rattle.shape.specs.Shape.{same_rule, not_after, repeats, out_of_order, shape_tests, shape_of, by_shape}
use Rattle.shape.specs.Sound.{InOrder}
use Rattle.shape.proofs.SoundLaws.{same_rule_lem, sound_lengths}
use Rattle.checker.specs.Check.{certificate_tests, sections_check, check_of}
use Rattle.claims.specs.OfDocket.{tree_in, assumed}
use Rattle.claims.proofs.OfDocket.Numbers.{shape_refusal_is}
use Rattle.claims.proofs.OfDocket.Refusals.{refusal_is}
use Rattle.claims.specs.OfOrder.{rule_in, RulesAmong, SoundVersion2, FirstNotAfter, earlier_tests, SameStates, OfOrder}

-- ---- The order

-- A rule is told by its numbers.
rule_of_key : List ℕ → Rule
rule_of_key l = record { p = get_or l 1 0; q = get_or l 2 0; p2 = get_or l 3 0; q2 = get_or l 4 0; layer = get_or l 0 0 }

key_tells : (x y : Rule) → rule_key x ≡ rule_key y → x ≡ y
unfolding rule_of_key
key_tells x y e = ap rule_of_key e

-- ---- Rules and their bytes

-- Byte j of rule r.
byte_same : (xs ys : List ℕ) (r j : ℕ) → j < 5 → rule_key (rule_of xs r) ≡ rule_key (rule_of ys r) → get_or xs (5 * r + j) 0 ≡ get_or ys (5 * r + j) 0
byte_same xs ys r zero l e = rw (add-zero (5 * r)) (ap (λ k. get_or k 1 0) e)
byte_same xs ys r (suc zero) l e = ap (λ k. get_or k 2 0) e
byte_same xs ys r (suc (suc zero)) l e = ap (λ k. get_or k 3 0) e
byte_same xs ys r (suc (suc (suc zero))) l e = ap (λ k. get_or k 4 0) e
byte_same xs ys r (suc (suc (suc (suc zero)))) l e = ap (λ k. get_or k 0 0) e
byte_same xs ys r (suc (suc (suc (suc (suc j))))) l e = absurd (omega arith)

bytes_same : (xs ys : List ℕ) (n : ℕ) → length xs ≡ 5 * n → length ys ≡ 5 * n → ((r : ℕ) → r < n → rule_key (rule_of xs r) ≡ rule_key (rule_of ys r)) → xs ≡ ys
bytes_same xs ys n l m same =
    ext_get_or 0 xs ys (l ∙ sym m)
    (λ i h.
    let e : 5 * (i / 5) + i % 5 ≡ i = omega arith in
    ap (λ k. get_or xs k 0) (sym e) ∙ byte_same xs ys (i / 5) (i % 5) (omega arith) (same (i / 5) (omega arith)) ∙ ap (λ k. get_or ys k 0) e)

-- ---- Dockets of version 2

-- The numbers of the rules of b.
abbrev keys : List ℕ → Header → ℕ → List ℕ
keys b h r = rule_key (rule_in b h r)

up : (b : List ℕ) (h : Header) → SoundVersion2 b h → Ascending (keys b h) h.sizes.rules
up b h g = g.shape.sections.ascending g.version

-- The layer of an earlier rule is not higher.
run_uses : (b : List ℕ) (h : Header) → SoundVersion2 b h → (c : List ℕ) (r : ℕ) → Uses (protocol_in b h) (layers_in b h) c r
    → (e : ℕ) → e < r → enabled (protocol_in b h) c e ≡ false
run_uses b h g c r uses e l =
    let P = protocol_in b h in
    let L = layers_in b h in
    let below : r < P.rules = (fires_rule P c r uses.fires_there).0 in
    ⊎_elim
    (λ (lower : L.of e < L.of r). is_false _ (λ on. not_both (active_intro P L c e (omega arith) on) (uses.lowest_layer (L.of e) lower)))
    (λ s. uses.lowest_number e l s.0)
    (less_elim _ _ _ _ (ascends (keys b h) h.sizes.rules (up b h g) e r l below))

one_order : (b d : List ℕ) (h k : Header) → SoundVersion2 b h → SoundVersion2 d k → RulesAmong b h d k → RulesAmong d k b h
    → (sections_of b h).rules ≡ (sections_of d k).rules
one_order b d h k g f here there =
    let n = h.sizes.rules in
    let m = k.sizes.rules in
    let in-d : Among (keys b h) n (keys d k) m = λ r l. let s = here r l in (s.0, s.1, ap rule_key s.2) in
    let in_b : Among (keys d k) m (keys b h) n = λ r l. let s = there r l in (s.0, s.1, ap rule_key s.2) in
    let e : n ≡ m = same_length (keys b h) (keys d k) n m (up b h g) (up d k f) in-d in_b in
    bytes_same (sections_of b h).rules (sections_of d k).rules n
    (sound_lengths b h g.shape).rules
    ((sound_lengths d k f.shape).rules ∙ ap (λ i. 5 * i) (sym e))
    (same_members (keys b h) (keys d k) n m (up b h g) (up d k f) in-d in_b)

-- ---- Rules out of order

-- The first bad place of the order is behind another rule, and no place before it is bad.
module _ (n : ℕ) (rules : List ℕ) where
  first-not_after : (k : ℕ) → k < n → not_after rules k ≡ true → Clear (not_after rules) k → (e : ℕ) × (k ≡ suc e) × FirstNotAfter n rules e
  first-not_after zero l t clear = absurd (false≢true t)
  first-not_after (suc e) l t clear =
      (e, refl, record { within = l; not_after = not-true _ t; earlier_after = λ r m. not-false _ (clear (suc r) (omega arith)) })

  clear_to : (e : ℕ) → FirstNotAfter n rules e → Clear (not_after rules) (suc e)
  clear_to e f zero l = refl
  clear_to e f (suc r) l = ap not (f.earlier_after r (omega arith))

in_order_or_not : (n : ℕ) (rules : List ℕ) → InOrder n rules ⊎ ((e : ℕ) × FirstNotAfter n rules e)
in_order_or_not n rules =
    let bad = not_after rules in
    by_cases (dec_lt (first_below n bad) n)
    (λ l. let s = first-not_after n rules (first_below n bad) l (first_passes n bad l) (first-lowest n bad) in inr (s.0, s.2))
    (λ g. inl (λ r l. not-false _ (first_clear n bad (omega arith) (suc r) l)))

-- ---- A refusal by 14

module _ (b : List ℕ) (k : ℕ) where
  abbrev h : Header
  h = header_of b

  abbrev rules : List ℕ
  rules = (sections_of b h).rules

  -- Test 14, in the list of tests.
  abbrev bad : ℕ → Bool
  bad = out_of_order h.sizes rules

  -- The first that fits is test 14, where no test behind those of the shape has this number.
  fits_14 : (vs : List Test) → numbered 14 vs ≡ false → FirstFits (shape_tests b h ++ vs) 14 k
      → Passes (earlier_tests b h) × (k < h.sizes.rules) × (bad k ≡ true) × Clear bad k
  fits_14 vs w f =
      let p = fits_past (earlier_tests b h) (drop 7 (shape_tests b h) ++ vs) 14 k refl f in
      let g = fits-here _ _ 14 k (fits_other _ 14 k w) p.1 in
      (p.0, g.1, g.2, g.3)

  refuses_14 : Passes (earlier_tests b h) → k < h.sizes.rules → bad k ≡ true → Clear bad k → shape_of b ≡ Err (refusal 14 k)
  refuses_14 p l t clear =
      (shape_refusal_is b 14 k).1 (record {
        earlier = earlier_tests b h;
        test = record { number = 14; places = h.sizes.rules; bad = bad };
        later = drop 8 (shape_tests b h);
        in_order = refl;
        earlier_pass = p;
        number_is = refl;
        within = l;
        fits = t;
        lowest_place = clear;
      })

  abbrev Said : Type 0
  Said = Passes (earlier_tests b h) × (h.sizes.version ≡ 2) × ((e : ℕ) × (k ≡ suc e) × FirstNotAfter h.sizes.rules rules e)

  says : (vs : List Test) → numbered 14 vs ≡ false → FirstFits (shape_tests b h ++ vs) 14 k → Said
  unfolding out_of_order
  says vs w f =
      let s = fits_14 vs w f in
      let t = and_elim (eqb h.sizes.version 2) (not_after rules k) s.2 in (
        s.0,
        eqb-true _ _ t.0,
        first-not_after h.sizes.rules rules k s.1 t.1 (λ j l. is_false _ (λ e. not_both (and_intro _ _ t.0 e) (s.3 j l))),
      )

  refusal_14 : (shape_of b ≡ Err (refusal 14 k)) ↔ Said
  unfolding out_of_order
  refusal_14 = (
    λ r. says [] refl ((shape_refusal_is b 14 k).0 r),
    λ s.
        let e = s.2.0 in
        let at : k ≡ suc e = s.2.1 in
        let f = s.2.2 in
        refuses_14 s.0 (omega (arith, at, f.within))
        (and_intro _ _ (eq-eqb _ _ s.1) (ap (not_after rules) at ∙ ap not f.not_after))
        (λ j l. is_false _ (λ on. not_both (and_elim (eqb h.sizes.version 2) _ on).1 (clear_to h.sizes.rules rules e f j (omega arith)))),
  )

  check_14 : (check_of b ≡ Err (refusal 14 k)) ↔ (shape_of b ≡ Err (refusal 14 k))
  unfolding check_of
  check_14 = (
    λ e.
        ⊎_elim
        (λ f. refusal_14.1 (says (certificate_tests h.sizes (sections_of b h)) refl f))
        (λ p. absurd (⊎_elim (λ q. omega arith) (λ q. omega arith) (number_12_13 (protocol_in b h) (assumed b h) (tree_in b h) 14 k p.1)))
        ((refusal_is b 14 k).0 e),
    λ e. ap (by_shape Err (λ i. sections_check i.sizes (sections_of b i))) e,
  )

-- ---- A refusal by 7

module _ (b : List ℕ) (p : Passes (take 6 (shape_tests b (header_of b)))) (e r : ℕ) (l : e < r) (m : r < (header_of b).sizes.rules)
    (s : SameStates (rule_in b (header_of b) e) (rule_in b (header_of b) r)) where
  abbrev tests : List Test
  tests = shape_tests b (header_of b)

  abbrev count : ℕ
  count = (header_of b).sizes.rules

  abbrev again : ℕ → Bool
  again = repeats (sections_of b (header_of b)).rules

  again_there : again r ≡ true
  unfolding repeats
  again_there =
      let x = sections_of b (header_of b) in
      any_intro r (same_rule x.rules r) e l (same_rule_lem (header_of b).sizes x e r s.0 s.1 s.2 s.3)

  again-below : first_below count again < count
  again-below = omega (arith, first_min count again r again_there)

  equal_is_7 : (k : ℕ) × (shape_of b ≡ Err (refusal 7 k))
  equal_is_7 = (
    first_below count again,
    (shape_refusal_is b 7 (first_below count again)).1 (record {
      earlier = take 6 tests;
      test = record { number = 7; places = count; bad = again };
      later = drop 7 tests;
      in_order = refl;
      earlier_pass = p;
      number_is = refl;
      within = again-below;
      fits = first_passes count again again-below;
      lowest_place = first-lowest count again;
    }),
  )

pub of_order : OfOrder
of_order = record {
  before_is = λ x y. less_is (rule_key x) (rule_key y);
  irreflexive = λ x. is_false _ (less_irreflexive (rule_key x));
  transitive = λ x y z. less_transitive (rule_key x) (rule_key y) (rule_key z);
  trichotomous = λ x y. ⊎_map (key_tells x y) (λ s. s) (less_trichotomous (rule_key x) (rule_key y));
  in_order = λ b h g e r. ascends (keys b h) h.sizes.rules (up b h g) e r;
  run_uses = run_uses;
  one_order = one_order;
  refusal_14 = refusal_14;
  check_14 = check_14;
  equal_is_7 = equal_is_7;
  in_order_or_not = in_order_or_not;
}
