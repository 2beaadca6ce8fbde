-- Laws for the functions of a node. Assumes nothing.
use Rattle.std.specs.Prelude.{◌≡◌, Bool, false, not, cond, ◌&&◌, ◌||◌, List, [], ◌∷◌, leb, ltb, eqb, length, get_or, set, Result, Ok, Err}
use Rattle.std.proofs.Math.Path.{refl, sym, ap, fun_ext, subst}
use Rattle.std.proofs.Common.{◌∙◌, add-suc, add-zero, lt_of_lt_of_le}
use Rattle.std.proofs.Math.Bool.{true, and-true, and-false, and_assoc, and_comm}
use Rattle.std.specs.Bool.{beq}
use Rattle.std.proofs.Math.Logic.{◌⊎◌, ⊎_elim, by_cases}
use Prim.Native.Nat.{ℕ, zero, suc, ◌+◌, ◌-◌, ◌*◌, ◌^◌, ◌≤◌, ◌<◌, min}
use Rattle.std.proofs.Math.Decide.{dec_lt}
use Rattle.std.proofs.lemmas.Bool.Decides.{nat_tests}
use native.Mathlib.Omega.{arith}
use borrow.Author.Tests.{lt-ltb, le-ltb, ltb-true, ltb-false, leb-true}
use Rattle.theory.specs.Bool.{member, imp}
use Rattle.theory.proofs.Bool.Laws.{by_test, not_both, is_false, and_elim, imp_intro, imp_elim}
use Rattle.theory.specs.Below.{all_below}
use Rattle.theory.proofs.Below.Laws.{all_same, all_intro, all_elim}
use Rattle.theory.specs.Protocol.{Protocol}
use Rattle.theory.specs.Facts.{Facts, with_absent, with_present, with_at_most_one, with_unused}
use Rattle.theory.specs.Tree as tree
use Rattle.theory.specs.Tree.{Assumption, leaf, output_absent, contradiction, disabled, case_split, trap, siphon, remainder, bad, checked}
use Rattle.theory.specs.Tree.{takes, puts, touches, follows, is_trap, is_siphon, within, is_set, is_run, children, ground, by_kind, node, refusal_number}
use Rattle.bits.specs.Code.{single_of, full_of, among_of, union_of, with_if, subset_of, in_words, in_word, first_words}
use Rattle.bits.specs.Code.Laws.{member_above, member_small, all_wider, subset_states, among_none, among_more}
use Rattle.bits.specs.Code.Laws.{words_start, words_more, words_end}
use Rattle.refusals.specs.Code.{number_of}
use Rattle.refusals.specs.declared.Fault.{Fault}
use Rattle.refusals.specs.declared.Fault.TheVariants.{Fields, Ground}
use Rattle.format.specs.Format.{is_output, rule_p, rule_q, node_kind, node_party, node_argument, node_set, protocol_of, tree_of}
use Rattle.format.specs.declared.Sizes.{Sizes}
use Rattle.shape.specs.Code.{SoundRules}
use Rattle.facts.specs.Code.{is_end, only_if}
use Rattle.facts.specs.Code.Laws.{within_party, within_ends, within-states, within-end-states}
use Rattle.threshold.specs.Code.{closes_for, closes_modulo_for}
use Rattle.node.specs.Code.{output_at, assumed_word, assumption_of, AimFits, number_of_kind, kind_of, node_with, node_of, rules_in, FlowAt, breaking_of, is_trap_of}
use Rattle.node.specs.Code.{Turn, refuse, proceed, check, tested, judged, turn_of_step, node_turn, turn_at, leaf_fields, run_fields, state_fields, rule_fields, set_fields, remainder_fields}
use Rattle.node.specs.Code.{output_gone, NamesRule, disabled_children, NamesSet, party_if, set_ground, set_child, gone_of}
use Rattle.node.specs.declared.Aim.{Aim}
use Rattle.node.specs.declared.Children.{Children}
use Rattle.node.specs.declared.Flow.{Flow}
use Rattle.node.specs.declared.Kind.{Kind}
use Rattle.node.specs.declared.Kind.TheVariants.{Leaf, Output, Contradiction, Disabled, Split, Trap, Siphon, Remainder}
use Rattle.node.specs.declared.Node.{Node}

-- ---- Fields, then ground

module _ (r : Result (Unit {0}) Fault) (b g : Bool) (e : r ≡ tested b g) where
  pub judge-refuses : (f : Fault) → r ≡ Err f → (y : Result Children Fault) → y ≡ Err f → (Fs : List Facts) → turn_of_step y ≡ judged b g Fs
  judge-refuses f d y h Fs = ap turn_of_step h ∙ go b g (sym e ∙ d)
    where
      go : (b g : Bool) → tested b g ≡ Err f → refuse (number_of f) ≡ judged b g Fs
      go true true q = absurd cc
      go true false q = let k : Ground ≡ f = cc in ap (λ (x : Fault). refuse (number_of x)) (sym k)
      go false g q = let k : Fields ≡ f = cc in ap (λ (x : Fault). refuse (number_of x)) (sym k)

  pub judge_passes : (u : Unit {0}) → r ≡ Ok u → (Fs : List Facts) → proceed Fs ≡ judged b g Fs
  judge_passes u d Fs = go b g (sym e ∙ d)
    where
      go : (b g : Bool) → tested b g ≡ Ok u → proceed Fs ≡ judged b g Fs
      go true true q = refl
      go true false q = absurd cc
      go false g q = absurd cc

-- Ground and children count only where the fields are good.
judged_when : (b g h : Bool) (x : Turn) (Fs Gs : List Facts) → (b ≡ true → (g ≡ h) × (Fs ≡ Gs)) → x ≡ judged b g Fs → x ≡ judged b h Gs
unfolding check
judged_when true g h x Fs Gs f e = let s = f refl in e ∙ rw (s.0, s.1)
judged_when false g h x Fs Gs f e = e

-- ---- What a tree refutes

has_output : (v b : Bool) → beq b v ≡ cond v b (not b)
has_output true true = refl
has_output true false = refl
has_output false true = refl
has_output false false = refl

-- The word of the output assumed for an end has the states of that output.
assumed-states : (z : Sizes) (states : List ℕ) (a : Aim) (k : ℕ) → AimFits z states a
    → member (assumed_word a k) ≡ among_of z.states (λ s. beq (is_output z states s) (output_at a k))
unfolding assumed_word
assumed-states z states a k h =
    by_test (output_at a k)
    (λ e. rw e (h.ones ∙ ap (among_of z.states) (fun_ext (λ s. sym (has_output true (is_output z states s))))))
    (λ e. rw e (h.zeros ∙ ap (among_of z.states) (fun_ext (λ s. sym (has_output false (is_output z states s))))))

-- ---- Sets in words

-- The members of u are the states of A.
subset_among : (S u a : ℕ) (A f : ℕ → Bool) (t : Bool) → S ≤ 64 → member u ≡ among_of S A → member a ≡ f → t ≡ subset_of u a
    → t ≡ all_below S (λ s. imp (A s) (f s))
unfolding among_of
subset_among S u a A f t l e d h =
    h
    ∙ rw (e, d)
    (all_wider 64 S (λ s. imp (ltb s 64 && (ltb s S && A s)) (f s)) l (λ s m. rw (le-ltb s S m, and-false (ltb s 64)))
    ∙ all_same S _ _ (λ s m. rw (lt-ltb s S m, lt-ltb s 64 (omega arith))))

-- A word is a set of the S states just where its members are among them.
module _ (S w : ℕ) (h : w < 2 ^ 64) where
  subset_full : w < 2 ^ S → all_below 64 (λ i. imp (member w i) (full_of S i)) ≡ true
  subset_full l =
      all_intro 64 _
      (λ i m. imp_intro (member w i) (full_of S i)
      (λ e. by_cases (dec_lt i S) (λ n. rw (lt-ltb i 64 m, lt-ltb i S n)) (λ n. absurd (not_both e (member_above S w i l (omega arith))))))

  full_subset : all_below 64 (λ i. imp (member w i) (full_of S i)) ≡ true → w < 2 ^ S
  full_subset e =
      member_small S w
      (λ i m. by_cases (dec_lt i 64)
      (λ n.
      is_false _
      (λ q. not_both (imp_elim _ _ (all_elim 64 (λ i. imp (member w i) (full_of S i)) e i n) q) (rw (le-ltb i S m, and-false (ltb i 64)))))
      (λ n. member_above 64 w i h (omega arith)))

  set_test : (u : ℕ) (t : Bool) → member u ≡ full_of S → t ≡ subset_of w u → t ≡ ltb w (2 ^ S)
  set_test u t e d =
      d
      ∙ rw e
      (by_test (ltb w (2 ^ S))
      (λ l. subset_full (ltb-true w (2 ^ S) l) ∙ sym l)
      (λ l. is_false _ (λ q. let n = full_subset q in let m = ltb-false w (2 ^ S) l in omega arith) ∙ sym l))

  pub set_is : (u : ℕ) (t : Bool) → member u ≡ full_of S → t ≡ subset_of w u → ltb 0 w && t ≡ ltb 0 w && ltb w (2 ^ S)
  set_is u t e d = ap (λ (b : Bool). ltb 0 w && b) (set_test u t e d)

-- ---- Rules and a set, in words of 64 rules

module _ (z : Sizes) (rules : List ℕ) (s : SoundRules z rules) (r : ℕ) (h : r < z.rules) where
  pub p_below : get_or rules (5 * r) 0 < 64
  p_below = lt_of_lt_of_le (s.p_lt r h) s.states_most

  pub q_below : get_or rules (5 * r + 1) 0 < 64
  q_below = lt_of_lt_of_le (s.q_lt r h) s.states_most

  pub p'_below : get_or rules (5 * r + 2) 0 < 64
  p'_below = lt_of_lt_of_le (s.p'_lt r h) s.states_most

  pub q'_below : get_or rules (5 * r + 3) 0 < 64
  q'_below = lt_of_lt_of_le (s.q'_lt r h) s.states_most

pub ruleset rule_states = (p_below, q_below, p'_below, q'_below)

-- Rules that pass f are gathered in a word: after a turn with the test t, and at the end of the word or of the rules.
module _ (P : Protocol) (f : ℕ → Bool) (q : ℕ) where
  -- The members of w are the rules that pass f, of the i rules from 64 q on, counted from there.
  abbrev Gathered : ℕ → ℕ → Type 0
  Gathered i w = member w ≡ among_of i (λ j. rules_in P f (64 * q + j))

  gathered_more : (i w v : ℕ) (t : Bool) → Gathered i w → 64 * q + i < P.rules → t ≡ f (64 * q + i) → member v ≡ with_if t i w → Gathered (i + 1) v
  unfolding rules_in
  gathered_more i w v t g l e = among_more (λ j. rules_in P f (64 * q + j)) i w v t g (rw (lt-ltb (64 * q + i) P.rules l) e)

  gathered_end : (i w : ℕ) → Gathered i w → 64 ≤ i → member w ≡ in_word q (rules_in P f)
  unfolding among_of in_word
  gathered_end i w g l =
      g ∙ fun_ext (λ j. by_test (ltb j 64) (λ e. rw (e, lt-ltb j i (omega (arith, ltb-true j 64 e)))) (λ e. rw e))

  gathered_past : (i w : ℕ) → Gathered i w → P.rules ≤ 64 * q + i → member w ≡ in_word q (rules_in P f)
  unfolding among_of in_word rules_in
  gathered_past i w g l =
      g
      ∙ fun_ext
      (λ j. by_test (ltb j i) (λ e. rw e) (λ e. rw (e, le-ltb (64 * q + j) P.rules (omega (arith, ltb-false j i e)))))

  gathered-whole : (i w : ℕ) → Gathered i w → min (P.rules - 64 * q) 64 ≤ i → member w ≡ in_word q (rules_in P f)
  gathered-whole i w g l = by_cases (dec_lt i 64) (λ m. gathered_past i w g (omega arith)) (λ m. gathered_end i w g (omega arith))

-- Of the i rules from 64 q on, those that take from the set A and those that put into it, counted from there.
pub record FlowBelow (P : Protocol) (A : ℕ → Bool) (q i taking putting : ℕ) : Type 0 where
  pub taking_is : Gathered P (takes P A) q i taking
  pub putting_is : Gathered P (puts P A) q i putting

module _ (P : Protocol) (A : ℕ → Bool) (q : ℕ) where
  pub flow_none : FlowBelow P A q 0 0 0
  flow_none = record { taking_is = among_none _; putting_is = among_none _ }

  pub flow-whole : (i x y : ℕ) → FlowBelow P A q i x y → min (P.rules - 64 * q) 64 ≤ i → FlowAt P A q (record { taking = x; putting = y })
  flow-whole i x y g l =
      record { taking = gathered-whole P (takes P A) q i x g.taking_is l; putting = gathered-whole P (puts P A) q i y g.putting_is l }

  -- A turn tests the pairs of rule 64 q + i.
  pub flow_more : (i x y v w : ℕ) (t u : Bool) → FlowBelow P A q i x y → 64 * q + i < P.rules → t ≡ A (P.p (64 * q + i)) || A (P.q (64 * q + i))
      → u ≡ A (P.p' (64 * q + i)) || A (P.q' (64 * q + i)) → member v ≡ with_if t i x → member w ≡ with_if u i y → FlowBelow P A q (i + 1) v w
  unfolding takes puts
  flow_more i x y v w t u g l ht hu hv hw =
      record {
        taking_is = gathered_more P (takes P A) q i x v t g.taking_is l ht hv;
        putting_is = gathered_more P (puts P A) q i y w u g.putting_is l hu hw;
      }

pub ruleset flows = (flow_none, flow-whole, flow_more)

all_split : (m n : ℕ) (f : ℕ → Bool) → all_below (m + n) f ≡ all_below m f && all_below n (λ k. f (m + k))
unfolding all_below
all_split m zero f = rw (add-zero m) (sym (and-true (all_below m f)))
all_split m (suc n) f =
    rw (add-suc m n, all_split m n f)
    (and_comm (f (m + n)) _ ∙ and_assoc (all_below m f) _ _ ∙ ap (λ (b : Bool). all_below m f && b) (and_comm _ (f (m + n))))

-- One rule: whether its number is below the number of rules (l), it takes from the set (t), puts into it (p), is
-- unused (u).
unbroken : (l t p u : Bool) → imp ((l && t) && not (l && p)) u ≡ imp l (u || imp t p)
unbroken true true true true = refl
unbroken true true true false = refl
unbroken true true false true = refl
unbroken true true false false = refl
unbroken true false p true = refl
unbroken true false p false = refl
unbroken false t p u = refl

module _ (reversed : Bool) (P : Protocol) (unused A : ℕ → Bool) where
  -- Rule r puts into the set A if it takes from it; with reversed, it takes from A if it puts into it.
  abbrev pub preserves : ℕ → Bool
  preserves r = imp (cond reversed (puts P A r) (takes P A r)) (cond reversed (takes P A r) (puts P A r))

  -- Rule r, if there is such a rule, is unused or preserves the set.
  unfoldable pub preserves_at : ℕ → Bool
  preserves_at r = imp (ltb r P.rules) (unused r || preserves r)

  -- So does every rule below 64 q.
  unfoldable pub preserved_below : ℕ → Bool
  preserved_below q = all_below (64 * q) preserves_at

  trap_is : is_trap_of reversed P unused A ≡ all_below P.rules (λ r. unused r || preserves r)
  unfolding is_trap_of is_trap is_siphon follows
  trap_is = by_test reversed (λ e. rw e) (λ e. rw e)

  pub preserved_none : true ≡ preserved_below 0
  unfolding preserved_below all_below
  preserved_none = refl

  preserved_word : (q : ℕ) (f : Flow) (b u : ℕ) → FlowAt P A q f → member b ≡ breaking_of reversed f → member u ≡ in_word q unused
      → subset_of b u ≡ all_below 64 (λ i. preserves_at (64 * q + i))
  unfolding breaking_of preserves_at in_word rules_in
  preserved_word q f b u g e d =
      rw (e, d)
      (all_same 64 _ _
      (λ i l.
      by_test reversed
      (λ h. rw (h, g.taking, g.putting, lt-ltb i 64 l) (unbroken (ltb (64 * q + i) P.rules) _ _ _))
      (λ h. rw (h, g.taking, g.putting, lt-ltb i 64 l) (unbroken (ltb (64 * q + i) P.rules) _ _ _))))

  pub preserved_more : (q : ℕ) (f : Flow) (b u : ℕ) (t x : Bool) → t ≡ preserved_below q → FlowAt P A q f → member b ≡ breaking_of reversed f
      → member u ≡ in_word q unused → x ≡ subset_of b u → t && x ≡ preserved_below (q + 1)
  unfolding preserved_below
  preserved_more q f b u t x h g e d k =
      let s : 64 * (q + 1) ≡ 64 * q + 64 = omega arith in
      rw (h, k, s, preserved_word q f b u g e d) (sym (all_split (64 * q) 64 preserves_at))

  pub preserved_end : (q : ℕ) (t : Bool) → P.rules ≤ 64 * q → t ≡ preserved_below q → t ≡ is_trap_of reversed P unused A
  unfolding preserved_below preserves_at
  preserved_end q t l h =
      h
      ∙ all_wider (64 * q) P.rules preserves_at l (λ r m. rw (le-ltb r P.rules m))
      ∙ all_same P.rules _ _ (λ r m. rw (lt-ltb r P.rules m))
      ∙ sym trap_is

-- The unused rules are those of the set U.
pub trap_of : (reversed : Bool) (P : Protocol) (unused U A : ℕ → Bool) (t : Bool) → unused ≡ U → t ≡ is_trap_of reversed P unused A
    → t ≡ is_trap_of reversed P U A
trap_of reversed P unused U A t e d = d ∙ ap (λ (B : ℕ → Bool). is_trap_of reversed P B A) e

pub ruleset preserved = (preserved_none, preserved_more, preserved_end)

both_flows : (h l t p : Bool) → (h && (l && t)) || (h && (l && p)) ≡ h && (l && (t || p))
both_flows true true t p = refl
both_flows true false t p = refl
both_flows false l t p = refl

module _ (P : Protocol) (A : ℕ → Bool) (ws : List ℕ) (q : ℕ) (below : in_words ws ≡ first_words q (touches P A)) where
  pub touching_more : (f : Flow) (w : ℕ) → length ws ≡ 4 → q < 4 → FlowAt P A q f → member w ≡ union_of f.taking f.putting
      → in_words (set ws q w) ≡ first_words (q + 1) (touches P A)
  unfolding touches in_word rules_in
  touching_more f w n l e d =
      words_more (touches P A) ws q w below (omega arith)
      (d ∙ fun_ext (λ i. rw (e.taking, e.putting) (both_flows (ltb i 64) (ltb (64 * q + i) P.rules) _ _)))

  pub touching_end : P.rules ≤ 64 * q → in_words ws ≡ touches P A
  unfolding touches
  touching_end l = words_end (touches P A) ws q below (λ r m. rw (le-ltb r P.rules (omega arith)))

pub ruleset touched = (words_start, touching_more, touching_end)

-- ---- The kinds

-- What good fields say of the party, the argument and the set, where there are at most two runs.
module _ (z : Sizes) (runs : ℕ) (n : Node) (few : runs ≤ 2) where
  run_within : (a b : Bool) → ((leb 1 n.party && leb n.party runs) && a) && b ≡ true → (1 ≤ n.party) × (n.party < 3)
  run_within a b e =
      let t = and_elim (leb 1 n.party) (leb n.party runs) (and_elim (leb 1 n.party && leb n.party runs) a (and_elim _ b e).0).0 in
      (leb-true 1 n.party t.0, omega (arith, leb-true n.party runs t.1))

  state_party : state_fields z runs n ≡ true → n.party < 3
  state_party e =
      omega (arith, leb-true n.party runs (and_elim (leb n.party runs) (ltb n.argument z.states) (and_elim _ (eqb n.set 0) e).0).0)

  state_argument : state_fields z runs n ≡ true → n.argument < z.states
  state_argument e = ltb-true _ _ (and_elim (leb n.party runs) (ltb n.argument z.states) (and_elim _ (eqb n.set 0) e).0).1

  pub names_rule_lem : (rules : List ℕ) → SoundRules z rules → NamesRule z rules runs n (rule_fields z runs n)
  names_rule_lem rules s =
      record {
        is = refl;
        party_least = λ e. (run_within (ltb n.argument z.rules) (eqb n.set 0) e).0;
        party_lt = λ e. (run_within (ltb n.argument z.rules) (eqb n.set 0) e).1;
        p_lt = λ e. lt_of_lt_of_le (s.p_lt n.argument (argument e)) s.states_most;
        q_lt = λ e. lt_of_lt_of_le (s.q_lt n.argument (argument e)) s.states_most;
      }
    where
      argument : rule_fields z runs n ≡ true → n.argument < z.rules
      argument e =
          ltb-true _ _ (and_elim (leb 1 n.party && leb n.party runs) (ltb n.argument z.rules) (and_elim _ (eqb n.set 0) e).0).1

  pub names_set_lem : (t : Bool) → z.states ≤ 64 → t ≡ ltb 0 n.set && ltb n.set (2 ^ z.states)
      → NamesSet z runs n (leb 1 n.party && leb n.party runs && eqb n.argument 0 && t)
  names_set_lem t l e =
      record {
        is = rw e;
        party_least = λ d. (run_within (eqb n.argument 0) t d).0;
        party_lt = λ d. (run_within (eqb n.argument 0) t d).1;
        set_lt = λ d.
            let u : t ≡ true = (and_elim ((leb 1 n.party && leb n.party runs) && eqb n.argument 0) t d).1 in
            ltb-true _ _ (and_elim (ltb 0 n.set) (ltb n.set (2 ^ z.states)) (sym e ∙ u)).1;
        states_most = l;
      }

party_lt : (t : Bool) (k m : ℕ) → 0 < m → k < m → party_if t k < m
unfolding party_if
party_lt true k m l h = h
party_lt false k m l h = l

module _ (z : Sizes) (n : Node) (F : Facts) (x : Turn) where
  -- Kind 1.
  pub output_turn : (states : List ℕ) (a : Aim) (w v : ℕ) (t : Bool) → z.states ≤ 64 → AimFits z states a → w ≡ assumed_word a n.party
      → member v ≡ F.absent n.party → t ≡ subset_of w v → x ≡ judged (run_fields a.runs n) t []
      → x ≡ judged (run_fields a.runs n) (output_gone z states a F n.party) []
  unfolding output_gone
  output_turn states a w v t l h e d k g =
      g
      ∙ ap (λ (b : Bool). judged (run_fields a.runs n) b [])
      (subset_among z.states w v _ (F.absent n.party) t l (ap member e ∙ assumed-states z states a n.party h) d k)

  -- Kind 3, where the before pair of the rule is p, q, and o says whether the fields are good.
  module _ (runs : ℕ) (rules : List ℕ) (o : Bool) (s : NamesRule z rules runs n o) (p q : ℕ) (ep : p ≡ rule_p rules n.argument)
      (eq : q ≡ rule_q rules n.argument) where
    pub disabled_same : (u : ℕ) (G : Facts) → eqb p q ≡ true → member u ≡ single_of p
        → G ≡ with_at_most_one F n.party (only_if (is_end n.party) (member u))
        → x ≡ judged o true (G ∷ [])
        → x ≡ judged (rule_fields z runs n) true (disabled_children F n.party (rule_p rules n.argument) (rule_q rules n.argument))
    unfolding disabled_children
    disabled_same u G t e g =
        rw (← s.is)
        (judged_when o true true x _ _
        (λ b.
        let l : p < 64 = rw (← ep) at (s.p_lt b) in
        (refl, rw (← ep, ← eq, t, disabled_children, g, within-end-states n.party p u (s.party_least b) (s.party_lt b) l e, ep))))

    pub disabled_other : (u v : ℕ) (G H : Facts) → eqb p q ≡ false → member u ≡ single_of p → member v ≡ single_of q
        → G ≡ with_absent F n.party (only_if (ltb n.party 3) (member u)) → H ≡ with_absent F n.party (only_if (ltb n.party 3) (member v))
        → x ≡ judged o true (G ∷ H ∷ [])
        → x ≡ judged (rule_fields z runs n) true (disabled_children F n.party (rule_p rules n.argument) (rule_q rules n.argument))
    unfolding disabled_children
    disabled_other u v G H t e d g h =
        rw (← s.is)
        (judged_when o true true x _ _
        (λ b.
        let k = s.party_lt b in
        let l : p < 64 = rw (← ep) at (s.p_lt b) in
        let m : q < 64 = rw (← eq) at (s.q_lt b) in
        (refl, rw (← ep, ← eq, t, disabled_children, g, h, within-states n.party p u k l e, within-states n.party q v k m d, ep, eq))))

  -- Kind 4.
  pub split_turn : (runs u : ℕ) (G H : Facts) → runs ≤ 2 → z.states ≤ 64 → member u ≡ single_of n.argument
      → G ≡ with_absent F n.party (only_if (ltb n.party 3) (member u)) → H ≡ with_present F n.party (only_if (ltb n.party 3) (member u))
      → x ≡ judged (state_fields z runs n) true (G ∷ H ∷ [])
      → x ≡ judged (state_fields z runs n) true (with_absent F n.party (eqb n.argument) ∷ with_present F n.party (eqb n.argument) ∷ [])
  split_turn runs u G H few l e g h =
      judged_when (state_fields z runs n) true true x _ _
      (λ b.
      let m = state_argument z runs n few b in
      (refl, rw (g, h, within-states n.party n.argument u (state_party z runs n few b) (omega arith) e)))

  -- Kinds 5 and 6. The tests of the code are o (the fields), t (absent) and j (a trap).
  pub set_turn : (runs : ℕ) (states rules : List ℕ) (reversed : Bool) (from to a : ℕ) (o t j : Bool) (H : Facts) (ws : List ℕ)
      → NamesSet z runs n o → from ≡ party_if (not reversed) n.party → to ≡ party_if reversed n.party
      → t ≡ subset_of n.set a → member a ≡ F.absent from
      → j ≡ is_trap_of reversed (protocol_of z states rules) (F.unused n.party) (member n.set)
      → in_words ws ≡ touches (protocol_of z states rules) (member n.set) → H ≡ gone_of F to n.set n.party ws
      → x ≡ judged o (t && j) (H ∷ [])
      → x ≡ judged (set_fields z runs n) (set_ground reversed (protocol_of z states rules) F n) (set_child reversed (protocol_of z states rules) F n ∷ [])
  unfolding set_ground set_child within gone_of
  set_turn runs states rules reversed from to a o t j H ws s ef et h d k w m y =
      rw (← s.is)
      (judged_when o (t && j) _ x _ _
      (λ b.
      let r = s.party_lt b in
      let same : t ≡ all_below z.states (λ i. imp (member n.set i) (F.absent from i)) =
      h ∙ rw d (subset_states 64 z.states n.set (F.absent from) s.states_most (s.set_lt b)) in
      let l : to < 3 = rw et (party_lt reversed n.party 3 (omega arith) r) in (
        rw (same, k, ef),
        rw (m, within_party to (member n.set) l, w, within_ends n.party (touches (protocol_of z states rules) (member n.set)) (s.party_least b) r, et),
      ))
      y)

pub gone_is : (F G H : Facts) (k w j : ℕ) (ws : List ℕ) → G ≡ with_absent F k (only_if (ltb k 3) (member w))
    → H ≡ with_unused G j (only_if (is_end j) (in_words ws)) → H ≡ gone_of F k w j ws
unfolding gone_of
gone_is F G H k w j ws e d = rw d (rw e)

-- ---- Node i

-- Good fields, ground and children of a node that is not bad.
turn_checked : (P : Protocol) (H : Assumption) (F : Facts) (b : Bool) (m : tree.Node) → refusal_number m ≡ 13
    → judged b (ground P H F m) (children P F m) ≡ node_turn P H F (checked b m)
unfolding node_turn checked check ground children refusal_number
turn_checked P H F true m e = rw e
turn_checked P H F false m e = refl

kind_number : (b : ℕ) (k : Kind) → kind_of b ≡ Ok k → b ≡ number_of_kind k
kind_number b k e = grind (arith, nat_tests)

unknown_fields : (b : ℕ) (f : Fault) → kind_of b ≡ Err f → f ≡ Fields
unknown_fields b f e = grind (arith, nat_tests)

unknown-above : (b : ℕ) (f : Fault) → kind_of b ≡ Err f → 7 < b
unknown-above b f e = grind (arith, nat_tests)

-- The node n, where it is node i.
module _ (nodes : List ℕ) (i : ℕ) where
  node-kind : (r : Result Kind Fault) (n : Node) → node_with nodes i r ≡ Ok n → r ≡ Ok n.kind
  node-kind (Ok k) n e =
      let h : record { kind = k; party = node_party nodes i; argument = node_argument nodes i; set = node_set nodes i } ≡ n = cc in
      ap (λ (m : Node). Ok m.kind) h
  node-kind (Err f) n e = absurd cc

  node-fields : (r : Result Kind Fault) (n : Node) → node_with nodes i r ≡ Ok n
      → n ≡ record { kind = n.kind; party = node_party nodes i; argument = node_argument nodes i; set = node_set nodes i }
  node-fields (Ok k) n e =
      let h : record { kind = k; party = node_party nodes i; argument = node_argument nodes i; set = node_set nodes i } ≡ n = cc in
      subst (λ (m : Node). m ≡ record { kind = m.kind; party = node_party nodes i; argument = node_argument nodes i; set = node_set nodes i }) h refl
  node-fields (Err f) n e = absurd cc

  node-fault : (r : Result Kind Fault) (f : Fault) → node_with nodes i r ≡ Err f → r ≡ Err f
  node-fault (Ok k) f e = absurd cc
  node-fault (Err g) f e = cc

module _ (z : Sizes) (states rules nodes numbers leaves : List ℕ) (aim : Aim) (F : Facts) (i : ℕ) (r : Result Node Fault) (e : r ≡ node_of nodes i)
    (x : Turn) where
  abbrev P : Protocol
  P = protocol_of z states rules

  abbrev H : Assumption
  H = assumption_of P z numbers leaves aim

  -- What node i comes to.
  abbrev here : Turn
  here = turn_at z states rules nodes numbers leaves aim F i

  -- The node with the fields of m, and this number for its kind.
  abbrev of_kind : Node → ℕ → tree.Node
  of_kind m k = get_or (by_kind P H (tree_of z nodes) m.party m.argument m.set) k bad

  -- Behind kind 7.
  pub kind_unknown : (f : Fault) → r ≡ Err f → x ≡ refuse (number_of f) → x ≡ here
  unfolding turn_at node by_kind node_turn ground refusal_number check
  kind_unknown f d h =
      let g = node-fault nodes i (kind_of (node_kind nodes i)) f (sym e ∙ d) in
      h
      ∙ ap (λ (q : Fault). refuse (number_of q)) (unknown_fields (node_kind nodes i) f g)
      ∙ ap (node_turn P H F) (sym (past (node_kind nodes i) (unknown-above (node_kind nodes i) f g)))
    where
      past : (k : ℕ) → 7 < k → get_or (by_kind P H (tree_of z nodes) (node_party nodes i) (node_argument nodes i) (node_set nodes i)) k bad ≡ bad
      past zero h = absurd (omega arith)
      past (suc zero) h = absurd (omega arith)
      past (suc (suc zero)) h = absurd (omega arith)
      past (suc (suc (suc zero))) h = absurd (omega arith)
      past (suc (suc (suc (suc zero)))) h = absurd (omega arith)
      past (suc (suc (suc (suc (suc zero))))) h = absurd (omega arith)
      past (suc (suc (suc (suc (suc (suc zero)))))) h = absurd (omega arith)
      past (suc (suc (suc (suc (suc (suc (suc zero))))))) h = absurd (omega arith)
      past (suc (suc (suc (suc (suc (suc (suc (suc k)))))))) h = refl

  module _ (n : Node) (d : r ≡ Ok n) where
    by_kind_lem : (k : Kind) → n.kind ≡ k → x ≡ node_turn P H F (of_kind n (number_of_kind k)) → x ≡ here
    unfolding turn_at node
    by_kind_lem k h g =
        let q : node_of nodes i ≡ Ok n = sym e ∙ d in
        let same : node_kind nodes i ≡ number_of_kind n.kind = kind_number _ _ (node-kind nodes i _ n q) in
        g
        ∙ ap (λ (j : ℕ). node_turn P H F (of_kind n j)) (ap number_of_kind (sym h) ∙ sym same)
        ∙ ap (λ (m : Node). node_turn P H F (of_kind m (node_kind nodes i))) (node-fields nodes i _ n q)

    pub kind_leaf : n.kind ≡ Leaf → x ≡ judged (leaf_fields z n) (closes_for P z numbers leaves aim.whose F n.argument) [] → x ≡ here
    unfolding by_kind ground children refusal_number
    kind_leaf k d = by_kind_lem Leaf k (d ∙ turn_checked P H F _ (leaf n.argument) refl)

    pub kind_output : n.kind ≡ Output → x ≡ judged (run_fields aim.runs n) (output_gone z states aim F n.party) [] → x ≡ here
    unfolding by_kind is_run ground children refusal_number within output_gone
    kind_output k d = by_kind_lem Output k (d ∙ turn_checked P H F _ (output_absent n.party) refl)

    pub kind_contradiction : n.kind ≡ Contradiction
        → x ≡ judged (state_fields z aim.runs n) (F.present n.party n.argument && F.absent n.party n.argument) [] → x ≡ here
    unfolding by_kind ground children refusal_number
    kind_contradiction k d = by_kind_lem Contradiction k (d ∙ turn_checked P H F _ (contradiction n.party n.argument) refl)

    pub kind_disabled : n.kind ≡ Disabled
        → x ≡ judged (rule_fields z aim.runs n) true (disabled_children F n.party (rule_p rules n.argument) (rule_q rules n.argument))
        → x ≡ here
    unfolding by_kind is_run ground children refusal_number disabled_children
    kind_disabled k d = by_kind_lem Disabled k (d ∙ turn_checked P H F _ (disabled n.party n.argument) refl)

    pub kind_split : n.kind ≡ Split
        → x ≡ judged (state_fields z aim.runs n) true
        (with_absent F n.party (eqb n.argument) ∷ with_present F n.party (eqb n.argument) ∷ [])
        → x ≡ here
    unfolding by_kind ground children refusal_number
    kind_split k d = by_kind_lem Split k (d ∙ turn_checked P H F _ (case_split n.party n.argument) refl)

    kind_trap : n.kind ≡ Trap → x ≡ judged (set_fields z aim.runs n) (set_ground false P F n) (set_child false P F n ∷ []) → x ≡ here
    unfolding by_kind is_run is_set ground children refusal_number set_ground set_child party_if is_trap_of
    kind_trap k d = by_kind_lem Trap k (d ∙ turn_checked P H F _ (trap n.party n.set) refl)

    kind_siphon : n.kind ≡ Siphon → x ≡ judged (set_fields z aim.runs n) (set_ground true P F n) (set_child true P F n ∷ []) → x ≡ here
    unfolding by_kind is_run is_set ground children refusal_number set_ground set_child party_if is_trap_of
    kind_siphon k d = by_kind_lem Siphon k (d ∙ turn_checked P H F _ (siphon n.party n.set) refl)

    pub kind_set : (reversed : Bool) → (n.kind ≡ Trap) ⊎ (n.kind ≡ Siphon) → (n.kind ≡ Trap → reversed ≡ false) → (n.kind ≡ Siphon → reversed ≡ true)
        → x ≡ judged (set_fields z aim.runs n) (set_ground reversed P F n) (set_child reversed P F n ∷ []) → x ≡ here
    kind_set reversed k f t d = ⊎_elim (λ (q : n.kind ≡ Trap). kind_trap q (rw (f q) at d)) (λ (q : n.kind ≡ Siphon). kind_siphon q (rw (t q) at d)) k

    pub kind_remainder : n.kind ≡ Remainder
        → x ≡ judged (remainder_fields z aim.whose n) (closes_modulo_for P z leaves aim.whose n.set F n.argument) [] → x ≡ here
    unfolding by_kind ground children refusal_number
    kind_remainder k d = by_kind_lem Remainder k (d ∙ turn_checked P H F _ (remainder n.argument n.set) refl)
