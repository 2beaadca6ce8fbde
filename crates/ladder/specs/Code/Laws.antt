-- Laws for the functions of the ladder. Assumes nothing.
use Rattle.std.specs.Prelude.{◌≡◌, refl, Bool, true, false, ◌&&◌, ◌||◌, List, leb, eqb, Option, None}
use Rattle.std.proofs.Math.Path.{sym, ap, fun_ext}
use Rattle.std.proofs.Common.{◌∙◌, ap₂, ⊎_elim, add-one}
use Rattle.std.proofs.Math.Bool.{not, and-true, and-false}
use Rattle.std.proofs.Math.Logic.{by_cases}
use Prim.Native.Nat.{ℕ, zero, suc, ◌+◌, ◌-◌, ◌≤◌, ◌<◌, min, max}
use Rattle.std.proofs.Math.Decide.{dec_lt}
use native.Mathlib.Omega.{arith}
use borrow.Author.Tests.{leb-true, leb-false, eqb-true, eqb-false, lt-ltb, le-ltb, ltb-false, le-leb, lt-leb, eq-eqb, ne_eqb, not-true, not-false}
use Rattle.std.proofs.Math.Dec.{ltb}
use Rattle.theory.specs.Bool.{member, imp, bit}
use Rattle.theory.proofs.Bool.Laws.{by_test, not_both, is_false, and_elim, and_fails}
use Rattle.theory.specs.Below.{Clear, all_below, any_below, sum_below, least, greatest}
use Rattle.theory.proofs.Below.Laws.{all_elim, all_intro, all_same, any_elim, any_intro, any_same}
use Rattle.theory.specs.Protocol.{Protocol}
use Rattle.theory.specs.Ladder.{Layers, lowers_at, is_lower, pre_sequence, fits, handover_at, spread, spreads}
use Rattle.bits.specs.Code.{single_of, union_of}
use Rattle.bits.specs.Code.Laws.{member_none}
use Rattle.format.specs.Format.{rule_p, rule_q, rule_layer, rule_of, protocol_of, layers_of}
use Rattle.format.specs.declared.Sizes.{Sizes}
use Rattle.format.specs.declared.Rule.{Rule}
use Rattle.shape.specs.Code.{SoundRules}
use Rattle.ladder.specs.declared.PreSequence.{PreSequence}
use Rattle.ladder.specs.Code.{in_pair, beyond_of, pre_sequence_of, held_of, covers_of, fits_in, covered_in, is_there, single_in, states_in, SoundPair}

-- ---- Lowering at rule r, of layer l

module _ (P : Protocol) (L : Layers) (w : ℕ → ℕ → ℕ) where
  pub lowers_by : (r l p q p2 q2 before after : ℕ) → l ≡ L.of r → p ≡ P.p r → q ≡ P.q r → p2 ≡ P.p' r → q2 ≡ P.q' r
      → before ≡ w l p + w l q → after ≡ w l p2 + w l q2 → not (ltb after before) ≡ not (lowers_at P L w r)
  unfolding lowers_at
  lowers_by r l p q p2 q2 before after el ep eq ep2 eq2 b a = rw (← el, ← ep, ← eq, ← ep2, ← eq2, ← b, ← a)

-- ---- Pairs of states

beyond_at : (a b y k x : ℕ) → bit (is_there (beyond_of a b y k) x) ≡ bit (ltb (in_pair a b y) k && eqb y x)
beyond_at a b y k x = by_test (ltb (in_pair a b y) k) (λ e. rw e) (λ e. rw e)

one_short : (m : ℕ) → bit (ltb m 1) ≡ 1 - m
one_short m = by_cases (dec_lt m 1) (λ h. rw (lt-ltb m 1 h) (omega arith)) (λ h. rw (le-ltb m 1 (omega arith)) (omega arith))

two_short : (m : ℕ) → bit (ltb m 1) + bit (ltb m 2) ≡ 2 - m
two_short m = by_cases (dec_lt m 2) (λ h. rw (lt-ltb m 2 h) (omega (arith, one_short m))) (λ h. rw (le-ltb m 2 (omega arith)) (omega (arith, one_short m)))

module _ (a b y k x : ℕ) where
  beyond_same : y ≡ x → (h : ℕ) → k ≡ h → bit (is_there (beyond_of a b y k) x) ≡ bit (ltb (in_pair a b x) h)
  beyond_same e h d = beyond_at a b y k x ∙ rw (eq-eqb y x e, and-true, e, d)

  beyond_other : (y ≡ x → ⊥) → bit (is_there (beyond_of a b y k) x) ≡ 0
  beyond_other d = beyond_at a b y k x ∙ rw (ne_eqb y x d, and-false)

by_state : {X : Type 0} (a x : ℕ) → (a ≡ x → X) → ((a ≡ x → ⊥) → X) → X
by_state a x f g = by_test (eqb a x) (λ e. f (eqb-true a x e)) (λ e. g (eqb-false a x e))

bit_same : (a x : ℕ) → a ≡ x → bit (eqb a x) ≡ 1
bit_same a x e = ap bit (eq-eqb a x e)

bit_other : (a x : ℕ) → (a ≡ x → ⊥) → bit (eqb a x) ≡ 0
bit_other a x d = ap bit (ne_eqb a x d)

-- What the pair y, w has beyond the pair a, b, at each state.
module _ (a b y w x : ℕ) where
  left_over : bit (is_there (beyond_of a b y 1) x) + bit (is_there (beyond_of a b w (in_pair y w w)) x) ≡ in_pair y w x - in_pair a b x
  left_over =
      by_state y x
      (λ e. by_state w x
      (λ d. omega (
        arith,
        two_short (in_pair a b x),
        beyond_same a b y 1 x e 1 refl,
        beyond_same a b w (in_pair y w w) x d 2
            (twice (e ∙ sym d)),
        bit_same y x e,
        bit_same w x d,
      ))
      (λ d. omega (
        arith,
        one_short (in_pair a b x),
        beyond_same a b y 1 x e 1 refl,
        beyond_other a b w
            (in_pair y w w) x d,
        bit_same y x e,
        bit_other w x d,
      )))
      (λ e. by_state w x
      (λ d. omega (
        arith,
        one_short (in_pair a b x),
        beyond_other a b y 1 x e,
        beyond_same a b w (in_pair y w w) x d 1
            (once (λ f. e (f ∙ d))),
        bit_other y x e,
        bit_same w x d,
      ))
      (λ d. omega (arith, beyond_other a b y 1 x e, beyond_other a b w (in_pair y w w) x d, bit_other y x e, bit_other w x d)))
    where
      twice : y ≡ w → in_pair y w w ≡ 2
      twice e = omega (arith, bit_same y w e, bit_same w w refl)

      once : (y ≡ w → ⊥) → in_pair y w w ≡ 1
      once d = omega (arith, bit_other y w d, bit_same w w refl)

-- ---- Fitting

-- Whether the pair p, q of states is inside J is decided at p and at q.
module _ (n : ℕ) (H J : ℕ → ℕ) (same : (x : ℕ) → x < n → H x ≡ J x) (p q : ℕ) where
  abbrev held : ℕ → Bool
  held x = leb (in_pair p q x) (H x)

  abbrev inside : ℕ → Bool
  inside x = leb (in_pair p q x) (J x)

  held-inside : (x : ℕ) → x < n → held x ≡ true → inside x ≡ true
  held-inside x l e = le-leb (in_pair p q x) (J x) (omega (arith, same x l, leb-true (in_pair p q x) (H x) e))

  not_inside : (x : ℕ) → x < n → held x ≡ false → all_below n inside ≡ false
  not_inside x l e =
      is_false _ (λ a. not_both (all_elim n inside a x l) (lt-leb (in_pair p q x) (J x) (omega (arith, same x l, leb-false (in_pair p q x) (H x) e))))

  pair_inside : p < n → q < n → (held p && held q) ≡ all_below n inside
  pair_inside lp lq =
      by_test (held p && held q)
      (λ e. let f = and_elim (held p) (held q) e in e ∙ sym (all_intro n inside (each f.0 f.1)))
      (λ e. e ∙ sym (⊎_elim (not_inside p lp) (not_inside q lq) (and_fails (held p) (held q) e)))
    where
      each : held p ≡ true → held q ≡ true → (x : ℕ) → x < n → inside x ≡ true
      each f g x l =
          by_state p x
          (λ e. ap inside (sym e) ∙ held-inside p lp f)
          (λ e. by_state q x
          (λ d. ap inside (sym d) ∙ held-inside q lq g)
          (λ d. le-leb (in_pair p q x) (J x) (omega (arith, bit_other p x e, bit_other q x d))))

-- The set of the states of j, from its four states.
one_of : (l a b c d : Bool) → ((l && a) || (l && b)) || ((l && c) || (l && d)) ≡ l && ltb 0 (bit a + bit b + (bit c + bit d))
one_of false a b c d = refl
one_of true true b c d = sym (lt-ltb 0 (1 + bit b + (bit c + bit d)) (omega arith))
one_of true false true c d = sym (lt-ltb 0 (0 + 1 + (bit c + bit d)) (omega arith))
one_of true false false true d = sym (lt-ltb 0 (0 + 0 + (1 + bit d)) (omega arith))
one_of true false false false true = refl
one_of true false false false false = refl

pub states_are : (j : PreSequence) (a b c d e f w : ℕ) → member a ≡ single_of j.first → member b ≡ single_of j.second → member c ≡ union_of a b
    → member d ≡ single_in j.third → member e ≡ single_in j.fourth → member f ≡ union_of d e → member w ≡ union_of c f → member w ≡ states_in j
unfolding states_in
states_are j a b c d e f w ea eb ec ed ee ef ew =
    fun_ext
    (λ x.
    ap (λ (k : ℕ → Bool). k x) ew
    ∙ rw (ec, ef, ea, eb, ed, ee) (one_of (ltb x 64) (eqb j.first x) (eqb j.second x) (is_there j.third x) (is_there j.fourth x)))

pub none_single : (a : Option ℕ) → a ≡ None → member 0 ≡ single_in a
none_single a e = fun_ext (λ x. member_none x ∙ rw (e, and-false))

-- Of a state that is not in the set, j has no agent.
missing : (j : PreSequence) (w x : ℕ) → member w ≡ states_in j → x < 64 → member w x ≡ false → held_of j x ≡ 0
unfolding states_in
missing j w x h l e =
    let t : ltb 0 (held_of j x) ≡ false = ap (λ b. b && ltb 0 (held_of j x)) (sym (lt-ltb x 64 l)) ∙ sym (ap (λ (k : ℕ → Bool). k x) h) ∙ e in
    omega (arith, ltb-false 0 (held_of j x) t)

-- A pair with a state of which j has no agent is not covered.
module _ (j : PreSequence) (w : ℕ) (h : member w ≡ states_in j) (p q : ℕ) where
  first_missing : p < 64 → member w p ≡ false → covers_of j p q p ≡ false
  first_missing l e = lt-leb (in_pair p q p) (held_of j p) (omega (arith, missing j w p h l e, bit_same p p refl))

  second_missing : q < 64 → member w q ≡ false → covers_of j p q q ≡ false
  second_missing l e = lt-leb (in_pair p q q) (held_of j q) (omega (arith, missing j w q h l e, bit_same q q refl))

-- The branches of rule_fits: x is a state of rule v, w the set of the states of j.
module _ (rules : List ℕ) (l : ℕ) (j : PreSequence) (v w x : ℕ) (s : SoundPair rules v) (h : member w ≡ states_in j) (t : Bool) (g : t ≡ member w x)
    (k : not t ≡ true) where
  pub fits-first_missing : x ≡ rule_p rules v → false ≡ fits_in rules l j v
  unfolding fits_in
  fits-first_missing d = rw (first_missing j w h (rule_p rules v) (rule_q rules v) s.p_lt (ap (member w) (sym d) ∙ sym g ∙ not-true t k), and-false)

  pub fits-second_missing : x ≡ rule_q rules v → false ≡ fits_in rules l j v
  unfolding fits_in
  fits-second_missing d =
      rw (second_missing j w h (rule_p rules v) (rule_q rules v) s.q_lt (ap (member w) (sym d) ∙ sym g ∙ not-true t k), and-false, and-false)

-- m is the layer of rule v, and p, q its before pair.
module _ (rules : List ℕ) (l : ℕ) (j : PreSequence) (v m : ℕ) (e : m ≡ rule_layer rules v) where
  pub fits_not_lower : l ≤ m → false ≡ fits_in rules l j v
  unfolding fits_in
  fits_not_lower h = rw (le-ltb (rule_layer rules v) l (omega arith))

  module _ (p q : ℕ) (t : Bool) (h : m < l) (d : p ≡ rule_p rules v) (f : q ≡ rule_q rules v) (g : t ≡ covers_of j p q p) where
    pub fits-second : t ≡ true → (b : Bool) → b ≡ covers_of j p q q → b ≡ fits_in rules l j v
    unfolding fits_in
    fits-second k b i = rw (lt-ltb (rule_layer rules v) l (omega arith), ← d, ← f, sym g ∙ k) i

    pub fits_not_first : t ≡ false → false ≡ fits_in rules l j v
    unfolding fits_in
    fits_not_first k = rw (lt-ltb (rule_layer rules v) l (omega arith), ← d, ← f, sym g ∙ k)

-- The search for the rule v: rule u has been read as b.
module _ (rules : List ℕ) (n : ℕ) (a b : Rule) (u : ℕ) (eb : b ≡ rule_of rules u) where
  pub covered_higher : a.layer ≤ b.layer → covered_in rules n a u ≡ true
  unfolding covered_in
  covered_higher l = rw (le-ltb (rule_layer rules u) a.layer (omega (arith, ap (λ (r : Rule). r.layer) eb)))

  module _ (j : PreSequence) (ej : j ≡ pre_sequence_of a b) where
    pub covered_lower : b.layer < a.layer → covered_in rules n a u ≡ any_below n (fits_in rules a.layer j)
    unfolding covered_in
    covered_lower l =
        rw
        (lt-ltb (rule_layer rules u) a.layer (omega (arith, ap (λ (r : Rule). r.layer) eb)))
        (ap (λ k. any_below n (fits_in rules a.layer k)) (ap (pre_sequence_of a) (sym eb) ∙ sym ej))

    -- The search leaves at the first rule v that fits.
    pub covered_by : (v : ℕ) (t : Bool) → b.layer < a.layer → v < n → t ≡ fits_in rules a.layer j v → t ≡ true → covered_in rules n a u ≡ true
    covered_by v t l m e f = covered_lower l ∙ any_intro n (fits_in rules a.layer j) v m (sym e ∙ f)

    -- It ends where no rule fits.
    pub covered_none : (v : ℕ) → b.layer < a.layer → n ≤ v → Clear (fits_in rules a.layer j) v → covered_in rules n a u ≡ false
    covered_none v l m none =
        covered_lower l ∙ is_false _ (λ e. let f = any_elim n (fits_in rules a.layer j) e in not_both f.2 (none f.0 (omega (arith, f.1))))

-- What sound rules give for one of them.
pub sound_pair : (z : Sizes) (rules : List ℕ) (v : ℕ) → SoundRules z rules → v < z.rules → SoundPair rules v
sound_pair z rules v sound l = record {
  whole = omega (arith, sound.whole);
  p_lt = omega (arith, sound.p_lt v l, sound.states_most);
  q_lt = omega (arith, sound.q_lt v l, sound.states_most);
}

-- ---- Handover at rule s

-- Rule s has been read as a.
module _ (z : Sizes) (states rules : List ℕ) (sound : SoundRules z rules) (s : ℕ) (a : Rule) (ea : a ≡ rule_of rules s) where
  abbrev P : Protocol
  P = protocol_of z states rules

  abbrev L : Layers
  L = layers_of z rules

  layer_s : a.layer ≡ rule_layer rules s
  layer_s = ap (λ (r : Rule). r.layer) ea

  fits_same : (u v : ℕ) → v < z.rules → fits_in rules a.layer (pre_sequence_of a (rule_of rules u)) v ≡ is_lower L v s && fits P s u v
  unfolding fits_in is_lower fits
  fits_same u v l =
      rw (
        ea,
        pair_inside z.states
            (held_of (pre_sequence_of (rule_of rules s) (rule_of rules u)))
            (pre_sequence P s u)
            (λ x h. omega (arith, left_over (rule_of rules s).p2 (rule_of rules s).q2 (rule_p rules u) (rule_q rules u) x))
            (rule_p rules v) (rule_q rules v) (sound.p_lt v l) (sound.q_lt v l),
      )

  -- What each rule u is asked is what handover asks of it.
  covered_same : (u : ℕ) → covered_in rules z.rules a u ≡ imp (is_lower L u s) (any_below P.rules (λ v. is_lower L v s && fits P s u v))
  unfolding covered_in is_lower
  covered_same u =
      ap₂ imp
      (ap (ltb (rule_layer rules u)) layer_s)
      (any_same z.rules (fits_in rules a.layer (pre_sequence_of a (rule_of rules u))) (λ v. is_lower L v s && fits P s u v) (fits_same u))

  pub handover_same : handover_at P L s ≡ all_below z.rules (covered_in rules z.rules a)
  unfolding handover_at
  handover_same = sym (all_same z.rules _ _ (λ u l. covered_same u))

  -- All rules below u, which are all, are covered.
  pub all_covered : (u : ℕ) → Clear (λ k. not (covered_in rules z.rules a k)) u → z.rules ≤ u → not (handover_at P L s) ≡ false
  all_covered u covered l =
      ap not (handover_same ∙ all_intro z.rules (covered_in rules z.rules a) (λ k m. not-false _ (covered k (omega arith))))

  pub uncovered : (u : ℕ) → u < z.rules → covered_in rules z.rules a u ≡ false → not (handover_at P L s) ≡ true
  uncovered u l e =
      ap not
      (handover_same ∙ is_false _ (λ h. not_both (all_elim z.rules (covered_in rules z.rules a) h u l) e))

  -- Below layer 0 there is none.
  pub lowest_passes : a.layer ≡ 0 → not (handover_at P L s) ≡ false
  lowest_passes e =
      ap not
      (handover_same
      ∙ all_intro z.rules (covered_in rules z.rules a) (λ u l. covered_higher rules z.rules a (rule_of rules u) u refl (omega arith)))

-- ---- Spreads

-- The least and the greatest weight after a turn of the search.
module _ (f : ℕ → ℕ) where
  pub least_none : (w : ℕ) → w ≡ f 0 → w ≡ least 0 f
  unfolding least
  least_none w e = e

  pub least_more : (i a w b : ℕ) → a ≡ least i f → w ≡ f i → b ≡ min a w → b ≡ least (i + 1) f
  unfolding least
  least_more i a w b d e g = rw (add-one i, ← d, ← e) g

  pub greatest_none : (w : ℕ) → w ≡ f 0 → w ≡ greatest 0 f
  unfolding greatest
  greatest_none w e = e

  pub greatest_more : (i a w b : ℕ) → a ≡ greatest i f → w ≡ f i → b ≡ max a w → b ≡ greatest (i + 1) f
  unfolding greatest
  greatest_more i a w b d e g = rw (add-one i, ← d, ← e) g

  least_le_greatest : (n : ℕ) → least n f ≤ greatest n f
  unfolding least greatest
  least_le_greatest zero = omega arith
  least_le_greatest (suc n) = omega (arith, least_le_greatest n)

  pub low_le_high : (n a b : ℕ) → a ≡ least n f → b ≡ greatest n f → a ≤ b
  low_le_high n a b d e = omega (arith, least_le_greatest n)

-- The loops end at the number of states.
pub spread_is : (v : ℕ → ℕ) (m n a b : ℕ) → n ≤ m → m ≤ n → a ≡ least n v → b ≡ greatest n v → b - a ≡ spread m v
unfolding spread
spread_is v m n a b l h d e = let f : n ≡ m = omega arith in rw (← f, ← d, ← e)

-- The sum of the spreads, as theory has it.
pub spreads_are : (P : Protocol) (L : Layers) (w : ℕ → ℕ → ℕ) (a : ℕ) → a ≡ sum_below L.count (λ k. spread P.states (w k)) → a ≡ spreads P L w
unfolding spreads
spreads_are P L w a e = e

pub ruleset extremes = (least_none, least_more, greatest_none, greatest_more)
