-- Laws for the functions on counts and for their callers. Assumes nothing.
use Rattle.std.specs.Prelude.{◌≡◌, refl, Bool, not, cond, ◌&&◌, List, [], ℕ, ◌+◌, ◌-◌, ◌*◌, ◌/◌, ◌≤◌, ◌<◌, leb, ltb, length, get_or, set, sum, Option, Some, None, Result, Ok, Err}
use Rattle.std.proofs.Math.Path.{sym}
use Rattle.std.specs.Option.{MatchOption}
use Rattle.std.proofs.Common.{ap, ◌∙◌, subst, arith, get_or-set_same, get_or-set_other}
use Rattle.std.proofs.Math.Bool.{true, false}
use Rattle.std.proofs.Math.Logic.{by_cases}
use Rattle.std.proofs.Math.Decide.{dec_lt, ℕ_discrete}
use borrow.Author.Tests.{ltb-true, ltb-false, lt-ltb, le-ltb, leb-true, eq-eqb, eqb-true}
use Rattle.std.proofs.Math.Dec.{eqb}
use Rattle.std.proofs.lemmas.List.Recursion.{is_sum_by}
use Rattle.std.proofs.Math.Seq.{set_out}
use Rattle.theory.proofs.Bool.Laws.{by_test, not_both, is_false, and_intro, and_elim}
use Rattle.theory.specs.Below.{first_below}
use Rattle.theory.proofs.Below.Laws.{below_suc, first_le, first_is}
use Rattle.theory.proofs.Weigh.Laws.{weigh_at}
use Rattle.theory.specs.Weigh.{weigh}
use Rattle.theory.specs.Protocol.{Protocol, count, size, lose, gain, enabled, fire, unfit}
use Rattle.theory.specs.Pairs.{pairs_between, pairs}
use Rattle.theory.proofs.Pairs.Laws.{pairs-own, pairs_other, enabled-pairs}
use Rattle.theory.specs.Ladder.{Layers, enabled_in, active, lowest}
use Rattle.theory.proofs.Ladder.Active.{enabled_in_elim, active_elim, active_intro}
use Rattle.theory.specs.Machine.{is_sized, is_within, admitted, admit, chosen}
use Rattle.format.specs.Code.{Value}
use Rattle.format.specs.Format.{fixed_of, is_input, rule_of, protocol_of}
use Rattle.format.specs.declared.Sizes.{Sizes}
use Rattle.format.specs.declared.Rule.{Rule}
use Rattle.refusals.specs.declared.Refusal.{Refusal}
use Rattle.refusals.specs.Refusal.{refusal}
use Rattle.refusals.specs.Code.{refused_if}
use Rattle.counts.specs.Code.{counts_test, chosen_of, partners_of, pair_enabled, Most}

-- ---- One count

pub lose_past : (c : List ℕ) (s : ℕ) → length c ≤ s → c ≡ lose c s
unfolding lose
lose_past c s h = sym (set_out c s (count c s - 1) h)

pub gain_past : (c : List ℕ) (s : ℕ) → length c ≤ s → c ≡ gain c s
unfolding gain
gain_past c s h = sym (set_out c s (count c s + 1) h)

-- A store makes no other count greater.
set_most : (c : List ℕ) (s v m : ℕ) → v ≤ m → Most m c → Most m (set c s v)
unfolding Most
set_most c s v m h g i = go (ℕ_discrete i s)
  where
    go : Dec (i ≡ s) → get_or (set c s v) i 0 ≤ m
    go (yes e) =
        by_cases (dec_lt s (length c))
        (λ l. omega (arith, ap (λ k. get_or (set c s v) k 0) e, get_or-set_same c s v 0 l))
        (λ l. omega (arith, ap (λ d. get_or d i 0) (set_out c s v (omega arith)), g i))
    go (no e) = omega (arith, get_or-set_other c s i v 0 e, g i)

lose-most : (c : List ℕ) (s m : ℕ) → Most m c → Most m (lose c s)
unfolding lose Most
lose-most c s m h = set_most c s (count c s - 1) m (omega (arith, h s)) h

gain-most : (c : List ℕ) (s m : ℕ) → Most m c → Most (m + 1) (gain c s)
unfolding gain Most
gain-most c s m h = set_most c s (count c s + 1) (m + 1) (omega (arith, h s)) (λ i. omega (arith, h i))

size-most : (c : List ℕ) (m : ℕ) → size c ≤ m → Most m c
unfolding size Most
size-most c m h i = omega (arith, weigh_at (λ _. 1) c i)

-- While a rule fires on counts of a million agents at most, each count stays far below the greatest 32-bit number.
pub most_taken : (c d : List ℕ) (p q : ℕ) → size c ≤ 1000000 → d ≡ lose (lose c p) q → Most 1000000 d
most_taken c d p q h e = rw e (lose-most (lose c p) q 1000000 (lose-most c p 1000000 (size-most c 1000000 h)))

pub most_more : (c : List ℕ) → Most 1000000 c → Most 1000001 c
unfolding Most
most_more c h s = omega (arith, h s)

pub most_put : (c d : List ℕ) (p : ℕ) → Most 1000000 c → d ≡ gain c p → Most 1000001 d
most_put c d p h e = rw e (gain-most c p 1000000 h)

pub most-fits : (c : List ℕ) (s : ℕ) → Most 1000001 c → count c s + 1 < 4294967296
unfolding Most
most-fits c s h = omega (arith, h s)

-- ---- Tests 20 and 21

pub size_is : (c : List ℕ) (m : ℕ) → m ≡ sum c → m ≡ size c
unfolding size weigh
size_is c m e = e ∙ sym (is_sum_by (weigh (λ _. 1)) (λ x. x) refl (λ x xs. omega arith) c)

abbrev IsOk : Result (Unit {0}) Refusal → Type 0
IsOk (Ok a) = Unit {0}
IsOk (Err r) = ⊥

-- x is what test 20 finds, and y what test 21 finds, where w says whether the size m is within the bounds.
module _ (n : ℕ) (c : List ℕ) (x : Result (Unit {0}) Refusal) where
  first_refuses : (like : Bool) (y : Result (Unit {0}) Refusal) (q : Refusal) → x ≡ refused_if 20 (not like) → x ≡ Err q
      → x ≡ cond like y (Err (refusal 20 0))
  first_refuses true y q d u = absurd (subst IsOk (sym d ∙ u) tt)
  first_refuses false y q d u = d

  first_passes : (like : Bool) (y : Result (Unit {0}) Refusal) → x ≡ refused_if 20 (not like) → x ≡ Ok tt
      → y ≡ cond like y (Err (refusal 20 0))
  first_passes true y d u = refl
  first_passes false y d u = absurd (subst IsOk (sym u ∙ d) tt)

  module _ (d : x ≡ refused_if 20 (not (eqb (length c) n))) where
    pub counts_refuse : (r : Result (Unit {0}) Refusal) (q : Refusal) → x ≡ Err q → r ≡ Err q → r ≡ counts_test n c
    unfolding counts_test
    counts_refuse r q u h = h ∙ sym u ∙ first_refuses (eqb (length c) n) _ q d u

    pub counts_second : x ≡ Ok tt → (y : Result (Unit {0}) Refusal) (m : ℕ) (w : Bool) → m ≡ size c → w ≡ leb 2 m && leb m 1000000
        → y ≡ refused_if 21 (not w) → y ≡ counts_test n c
    unfolding counts_test is_within
    counts_second u y m w s e g =
        first_passes (eqb (length c) n) y d u
        ∙ ap (λ z. cond (eqb (length c) n) z (Err (refusal 20 0))) (g ∙ rw (e, s) (turn (leb 2 (size c) && leb (size c) 1000000)))
      where
        turn : (b : Bool) → refused_if 21 (not b) ≡ cond b (Ok tt) (Err (refusal 21 0))
        turn true = refl
        turn false = refl

pub ruleset counts-tests = (counts_refuse, counts_second)

-- The tests are theory's refusal of the counts: they pass just where the counts are admitted, and `admit` refuses by them.
module _ (P : Protocol) (c : List ℕ) where
  module _ (e : Ok tt ≡ counts_test P.states c) where
    passed : (is_sized P c ≡ true) × (is_within c ≡ true)
    unfolding counts_test is_sized
    passed =
        by_test (eqb (length c) P.states)
        (λ s. (s, by_test (is_within c) (λ w. w) (λ w. absurd (subst IsOk (rw (s, w) at e) tt))))
        (λ s. absurd (subst IsOk (rw s at e) tt))

    pub test_admitted : admitted P c ≡ true
    unfolding admitted
    test_admitted = and_intro _ _ passed.0 passed.1

    pub test_admits : {A : Type 0} (refuse : ℕ → A) (x : A) → admit P c refuse x ≡ x
    unfolding admit
    test_admits refuse x = rw (passed.0, passed.1)

    pub test_sized : length c ≡ P.states
    unfolding is_sized
    test_sized = eqb-true _ _ passed.0

    pub test-size : (2 ≤ size c) × (size c ≤ 1000000)
    unfolding is_within
    test-size = let w = and_elim (leb 2 (size c)) (leb (size c) 1000000) passed.1 in (leb-true _ _ w.0, leb-true _ _ w.1)

  module _ (r : Refusal) (e : Err r ≡ counts_test P.states c) where
    -- The error of a test.
    abbrev error : Result (Unit {0}) Refusal → Refusal
    error (Ok a) = r
    error (Err q) = q

    pub test_not_admitted : admitted P c ≡ false
    unfolding counts_test admitted is_sized
    test_not_admitted =
        by_test (eqb (length c) P.states)
        (λ s. by_test (is_within c) (λ w. absurd (subst IsOk (sym (rw (s, w) at e)) tt)) (λ w. rw (s, w)))
        (λ s. rw s)

    pub test_refuses : {A : Type 0} (g : Refusal → A) (x : A) → admit P c (λ n. g (refusal n 0)) x ≡ g r
    unfolding counts_test admit is_sized
    test_refuses g x =
        by_test (eqb (length c) P.states)
        (λ s. by_test (is_within c) (λ w. absurd (subst IsOk (sym (rw (s, w) at e)) tt)) (λ w. rw (s, w) (ap g (ap error (sym (rw (s, w) at e))))))
        (λ s. rw s (ap g (ap error (sym (rw s at e)))))

-- ---- Pairs and enabled

module _ (c : List ℕ) (p q : ℕ) where
  partners_own : eqb p q ≡ true → partners_of c p q ≡ count c p - 1
  unfolding partners_of
  partners_own e = rw (e, partners_of)

  partners_other : eqb p q ≡ false → partners_of c p q ≡ cond (ltb 0 (count c p)) (count c q) 0
  unfolding partners_of
  partners_other e = rw (e, partners_of)

  -- The three cases of the partners, n being the count of p: no agent in p, one state, two states.
  module _ (n : ℕ) (held : n ≡ count c p) where
    pub no_partner : n < 1 → 0 ≡ partners_of c p q
    no_partner l =
        let none : count c p ≡ 0 = omega arith in
        by_test (eqb p q) (λ e. rw (partners_own e, none)) (λ e. rw (partners_other e, none))

    pub partners_same : (t : Bool) → t ≡ eqb p q → t ≡ true → n - 1 ≡ partners_of c p q
    partners_same t e d = rw held (sym (partners_own (sym e ∙ d)))

    pub partners_apart : (t : Bool) (k : ℕ) → t ≡ eqb p q → t ≡ false → 1 ≤ n → k ≡ count c q → k ≡ partners_of c p q
    partners_apart t k e d l h = rw (partners_other (sym e ∙ d), lt-ltb 0 (count c p) (omega arith)) h

  -- The pairs, m being the count of p and n the number of partners: one state, two states.
  module _ (m n : ℕ) (held : m ≡ count c p) (met : n ≡ partners_of c p q) (t : Bool) (e : t ≡ eqb p q) where
    pub pairs_same : t ≡ true → (m * n) / 2 ≡ pairs_between c p q
    pairs_same d = rw (held, met ∙ partners_own (sym e ∙ d)) (sym (pairs-own c p q (sym e ∙ d)))

    pub pairs_apart : t ≡ false → m * n ≡ pairs_between c p q
    pairs_apart d =
        rw (held, met ∙ partners_other (sym e ∙ d), pairs_other c p q (sym e ∙ d))
        (by_test (ltb 0 (count c p))
        (λ some. rw some)
        (λ none. let zero : count c p ≡ 0 = omega (arith, ltb-false 0 (count c p) none) in rw zero (omega arith)))

  -- A before pair is enabled just where an agent in p has a partner.
  pub partner_some : (n : ℕ) → n ≡ partners_of c p q → ltb 0 n ≡ pair_enabled c p q
  partner_some n h =
      by_test (eqb p q)
      (λ e. rw (h ∙ partners_own e, e, pair_enabled) (but_one (count c p)))
      (λ e. rw (h ∙ partners_other e, e, pair_enabled) (by_test (ltb 0 (count c p)) (λ some. rw some) (λ none. rw none)))
    where
      but_one : (k : ℕ) → ltb 0 (k - 1) ≡ ltb 1 k
      but_one k =
          by_test (ltb 1 k)
          (λ l. lt-ltb 0 (k - 1) (omega (arith, ltb-true 1 k l)) ∙ sym l)
          (λ l. le-ltb 0 (k - 1) (omega (arith, ltb-false 1 k l)) ∙ sym l)

-- A rule has the pairs of its before pair.
pub pairs_rule : (z : Sizes) (states rules c : List ℕ) (r : ℕ) (x : Rule) (n : ℕ)
    → x ≡ rule_of rules r → n ≡ pairs_between c x.p x.q → n ≡ pairs (protocol_of z states rules) c r
pairs_rule z states rules c r x n e h = h ∙ ap (λ (y : Rule). pairs_between c y.p y.q) e

-- A rule is enabled where it has a pair.
pub enabled-some : (z : Sizes) (states rules c : List ℕ) (r n : ℕ) → n ≡ pairs (protocol_of z states rules) c r
    → ltb 0 n ≡ enabled (protocol_of z states rules) c r
enabled-some z states rules c r n h = ap (ltb 0) h ∙ sym (enabled-pairs (protocol_of z states rules) c r)

-- A rule is enabled where its before pair is.
pub enabled_pair : (z : Sizes) (states rules c : List ℕ) (r : ℕ) (x : Rule) (t : Bool)
    → x ≡ rule_of rules r → t ≡ pair_enabled c x.p x.q → t ≡ enabled (protocol_of z states rules) c r
unfolding enabled
enabled_pair z states rules c r x t e h = h ∙ ap (λ (y : Rule). pair_enabled c y.p y.q) e

-- A rule that fires takes its before pair and puts its after pair.
pub fire-pairs : (z : Sizes) (states rules c : List ℕ) (r : ℕ) (x : Rule) (d e : List ℕ)
    → x ≡ rule_of rules r → d ≡ lose (lose c x.p) x.q → e ≡ gain (gain d x.p2) x.q2 → e ≡ fire (protocol_of z states rules) c r
unfolding fire
fire-pairs z states rules c r x d e h f g =
    g ∙ ap (λ a. gain (gain a x.p2) x.q2) f ∙ ap (λ (y : Rule). gain (gain (lose (lose c y.p) y.q) y.p2) y.q2) h

-- ---- The rule that a run uses

module _ (P : Protocol) (L : Layers) (c : List ℕ) where
  -- Rule best is enabled, of layer low, and no rule before it that is enabled is of that layer or a lower one.
  pub record First (best low : ℕ) : Type 0 where
    pub rule : best < P.rules
    pub on : enabled P c best ≡ true
    pub layer : low ≡ L.of best
    pub most : low ≤ L.count
    pub first : (k : ℕ) → k < best → enabled P c k ≡ true → low < L.of k

  -- What a scan of the rules below r has found: the first one of the lowest layer, or nothing yet.
  pub record Best (r : ℕ) (best : Option ℕ) (low : ℕ) : Type 0 where
    pub least : (k : ℕ) → k < r → enabled P c k ≡ true → low ≤ L.of k
    pub found : MatchOption best (low ≡ L.count + 1) (λ b. First b low)

  pub best_of_none : Best 0 None (L.count + 1)
  best_of_none = record { least = λ k l e. absurd (omega arith); found = refl }

  low-most : (r : ℕ) (best : Option ℕ) (low : ℕ) → Best r best low → low ≤ L.count + 1
  low-most r best low h = go best h.found
    where
      go : (best : Option ℕ) → MatchOption best (low ≡ L.count + 1) (λ b. First b low) → low ≤ L.count + 1
      go (Some b) f = omega (arith, f.most)
      go None f = omega (arith, f)

  -- One rule more, of layer k: it does not count where its layer is not lower or where it is not enabled, and is the best
  -- otherwise.
  module _ (r : ℕ) (best : Option ℕ) (low k : ℕ) (h : Best r best low) (l : r < P.rules) (v : Value 256 (L.of r) k) where
    best_same : (enabled P c r ≡ true → low ≤ L.of r) → Best (r + 1) best low
    best_same d = record {
      least = λ j m. below_suc (λ i. enabled P c i ≡ true → low ≤ L.of i) r d h.least j (omega arith);
      found = h.found;
    }

    pub best_not_lower : low ≤ k → Best (r + 1) best low
    best_not_lower m = best_same (λ _. omega (arith, v.is))

    module _ (t : Bool) (e : t ≡ enabled P c r) where
      pub best_not_enabled : t ≡ false → Best (r + 1) best low
      best_not_enabled u = best_same (λ w. absurd (not_both w (sym e ∙ u)))

      -- Rule r is the first enabled one of its layer, which is the lowest so far.
      first_lower_lem : k < low → t ≡ true → First r k
      first_lower_lem d u = record {
        rule = l;
        on = sym e ∙ u;
        layer = v.is;
        most = omega (arith, low-most r best low h);
        first = λ j m w. omega (arith, h.least j m w);
      }

      pub best_lower : k < low → t ≡ true → Best (r + 1) (Some r) k
      best_lower d u = record {
        least = λ j m.
            below_suc (λ i. enabled P c i ≡ true → k ≤ L.of i) r
            (λ _. omega (arith, v.is)) (λ i n w. omega (arith, h.least i n w)) j (omega arith);
        found = first_lower_lem d u;
      }

  not_in : (k r : ℕ) → (enabled P c r ≡ true → L.of r ≡ k → ⊥) → enabled_in P L c k r ≡ false
  not_in k r h = is_false _ (λ e. let s = enabled_in_elim P L c k r e in h s.1 s.0)

  -- No rule of a layer up to the number of layers is enabled.
  chosen_none : ((k : ℕ) → k < P.rules → enabled P c k ≡ true → L.count < L.of k) → chosen P L c ≡ P.rules
  unfolding chosen lowest
  chosen_none h =
      let low : lowest P L c ≤ L.count = first_le L.count (active P L c) in
      first_is P.rules (enabled_in P L c (lowest P L c)) P.rules (omega arith)
      (λ r l. not_in (lowest P L c) r (λ e q. omega (arith, h r l e))) (λ l. absurd (omega arith))

  -- Rule best is the first enabled one of layer low, and no enabled rule is of a lower layer.
  module _ (best low : ℕ) (f : First best low) (least : (k : ℕ) → k < P.rules → enabled P c k ≡ true → low ≤ L.of k) where
    lowest_is : lowest P L c ≡ low
    unfolding lowest
    lowest_is =
        first_is L.count (active P L c) low f.most
        (λ k l. is_false _ (λ a. let s = active_elim P L c k a in omega (arith, least s.0 s.1 s.3, s.2)))
        (λ _. rw f.layer (active_intro P L c best f.rule f.on))

    chosen-first : best ≡ chosen P L c
    unfolding chosen enabled_in
    chosen-first =
        let on : enabled_in P L c low best ≡ true = and_intro _ _ (eq-eqb (L.of best) low (sym f.layer)) f.on in
        sym (ap (λ k. first_below P.rules (enabled_in P L c k)) lowest_is
        ∙ first_is P.rules (enabled_in P L c low) best (omega (arith, f.rule)) (λ k l. not_in low k (λ e q. omega (arith, f.first k l e))) (λ _. on))

  -- The chosen rule as an Option, and back.
  some_chosen : (r : ℕ) → r < P.rules → r ≡ chosen P L c → Some r ≡ chosen_of P L c
  unfolding chosen_of
  some_chosen r l e = rw (← e, lt-ltb r P.rules l)

  none_chosen : chosen P L c ≡ P.rules → None ≡ chosen_of P L c
  unfolding chosen_of
  none_chosen e = rw (le-ltb (chosen P L c) P.rules (omega arith))

  pub chosen-tells : (o : Option ℕ) → o ≡ chosen_of P L c → MatchOption o (chosen P L c ≡ P.rules) (λ r. (r < P.rules) × (r ≡ chosen P L c))
  unfolding chosen_of chosen
  chosen-tells o e =
      by_test (ltb (chosen P L c) P.rules)
      (λ t. rw (e, t) (ltb-true _ _ t, refl))
      (λ t. rw (e, t) (let most = first_le P.rules (enabled_in P L c (lowest P L c)) in omega (arith, ltb-false (chosen P L c) P.rules t)))

  -- An enabled rule of layer 0, lower than every layer so far, is chosen; at the end of the scan, the best is.
  pub chosen_bottom : (r : ℕ) (best : Option ℕ) (low k : ℕ) → Best r best low → r < P.rules → Value 256 (L.of r) k → (t : Bool) → t ≡ enabled P c r
      → k < low → t ≡ true → k ≡ 0 → Some r ≡ chosen_of P L c
  chosen_bottom r best low k h l v t e d u z =
      some_chosen r l (chosen-first r k (first_lower_lem r best low k h l v t e d u) (λ j m w. omega arith))

  pub chosen_best : (r : ℕ) (best : Option ℕ) (low : ℕ) → Best r best low → P.rules ≤ r → best ≡ chosen_of P L c
  chosen_best r best low h end = go best h.found
    where
      least : (k : ℕ) → k < P.rules → enabled P c k ≡ true → low ≤ L.of k
      least k l = h.least k (omega arith)

      go : (best : Option ℕ) → MatchOption best (low ≡ L.count + 1) (λ b. First b low) → best ≡ chosen_of P L c
      go (Some b) f = some_chosen b f.rule (chosen-first b low f least)
      go None f = none_chosen (chosen_none (λ k l e. omega (arith, least k l e, f)))

pub ruleset choosing = (best_of_none, best_not_lower, best_not_enabled, best_lower, chosen_bottom, chosen_best, enabled_pair)

-- ---- The start rule

-- State s holds m agents; t says whether it is an input, and n is the number of its fixed agents.
module _ (z : Sizes) (states c : List ℕ) (s m n : ℕ) (t : Bool) (hm : m ≡ count c s) (hn : n ≡ fixed_of z states s) (ht : t ≡ is_input z states s) where
  pub unfit_input : t ≡ true → ltb m n ≡ unfit (protocol_of z states []) c s
  unfolding unfit
  unfit_input e = rw (unfit, ← ht, e, hm, hn)

  pub unfit_other : t ≡ false → not (eqb m n) ≡ unfit (protocol_of z states []) c s
  unfolding unfit
  unfit_other e = rw (unfit, ← ht, e, hm, hn)

pub ruleset unfits = (unfit_input, unfit_other)
