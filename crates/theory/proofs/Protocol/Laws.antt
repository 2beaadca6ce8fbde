-- What firing a rule does to counts, weighed sums and sizes; terminal configurations, verdicts and starts. Assumes nothing.
use Rattle.std.specs.Prelude.{◌≡◌, refl, Bool, not, cond, ◌&&◌, List, ◌↔◌, ◌⊎◌, ℕ, suc, ◌+◌, ◌-◌, ◌*◌, ◌≤◌, ◌<◌, length, set, ltb, eqb}
use Rattle.std.proofs.Common.{sym, ap, ◌∙◌, inl, inr, ⊎_elim, arith}
use Rattle.std.proofs.Math.Bool.{true, false}
use Rattle.std.specs.Bool.{beq}
use Rattle.std.proofs.Math.Decide.{ℕ_discrete}
use Rattle.std.proofs.Math.ListN.{length-set}
use borrow.Author.Tests.{ltb-true, ltb-false, lt-ltb, le-ltb, eqb-true, eqb-false, eq-eqb, ne_eqb, not-true, not-false}
use Rattle.theory.specs.Bool.{bit}
use Rattle.theory.proofs.Bool.Laws.{by_test, not_both, is_true, is_false, not_same, and_intro, and_elim, and_fails, imp_intro, imp_elim}
use Rattle.theory.proofs.Bool.Laws.{imp_fails, beq_true, beq_false, eq_beq}
use Rattle.theory.proofs.Below.Laws.{all_elim, all_intro, all_fails, first-lowest, first_is}
use Rattle.theory.specs.Weigh.{weigh}
use Rattle.theory.proofs.Weigh.Laws.{weigh_set, weigh-some, weigh_one, occupied_lt}
use Rattle.theory.specs.Protocol.{Protocol, WellFormed, agreed, mixed, count, size, lose, gain, pre, post, enabled, fire, terminal, Shows}
use Rattle.theory.specs.Protocol.{shows, output_of, StartRule, Start, only_fixed, Unfixed, unfit, start_test}

-- ---- One agent less, one agent more

length-lose : (c : List ℕ) (s : ℕ) → length (lose c s) ≡ length c
unfolding lose
length-lose c s = length-set c s (count c s - 1)

length-gain : (c : List ℕ) (s : ℕ) → length (gain c s) ≡ length c
unfolding gain
length-gain c s = length-set c s (count c s + 1)

weigh-lose : (w : ℕ → ℕ) (c : List ℕ) (s : ℕ) → 0 < count c s → weigh w c ≡ weigh w (lose c s) + w s
unfolding lose
weigh-lose w c s h = go (count c s - 1) (omega arith)
  where
    go : (k : ℕ) → count c s ≡ suc k → weigh w c ≡ weigh w (set c s k) + w s
    go k e = omega (arith, weigh_set w c s k (occupied_lt c s h), ap (λ x. w s * x) e)

weigh-gain : (w : ℕ → ℕ) (c : List ℕ) (s : ℕ) → s < length c → weigh w (gain c s) ≡ weigh w c + w s
unfolding gain
weigh-gain w c s h = omega (arith, weigh_set w c s (count c s + 1) h)

count-lose : (c : List ℕ) (s i : ℕ) → 0 < count c s → count (lose c s) i + bit (eqb s i) ≡ count c i
count-lose c s i h = omega (arith, weigh-lose (λ k. bit (eqb k i)) c s h, weigh_one i (lose c s), weigh_one i c)

pub self : (s : ℕ) → bit (eqb s s) ≡ 1
self s = ap bit (eq-eqb s s refl)

-- ---- Pairs of states

-- A state that the pair a, b has is a or b.
pub in_pair_lem : (a b i : ℕ) → 0 < bit (eqb a i) + bit (eqb b i) → (a ≡ i) ⊎ (b ≡ i)
in_pair_lem a b i h =
    by_test (eqb a i)
    (λ e. inl (eqb-true _ _ e))
    (λ e. by_test (eqb b i) (λ f. inr (eqb-true _ _ f)) (λ f. absurd (omega (arith, ap bit e, ap bit f))))

-- Two pairs in order that have the same states in the same numbers are the same pair.
module _ (a b : ℕ) where
  abbrev SamePair : ℕ → ℕ → Type 0
  SamePair a' b' = (i : ℕ) → bit (eqb a i) + bit (eqb b i) ≡ bit (eqb a' i) + bit (eqb b' i)

  pair_le : (a' b' : ℕ) → a' ≤ b' → SamePair a' b' → a' ≤ a
  pair_le a' b' o h = ⊎_elim (λ (e : a' ≡ a). omega arith) (λ (e : b' ≡ a). omega arith) (in_pair_lem a' b' a (omega (arith, h a, self a)))

pair_same : (a b a' b' : ℕ) → a ≤ b → a' ≤ b' → SamePair a b a' b' → (a ≡ a') × (b ≡ b')
pair_same a b a' b' o o' h =
    let first : a ≡ a' = omega (arith, pair_le a b a' b' o' h, pair_le a' b' a b o (λ i. sym (h i))) in
    let second : eqb b' b ≡ true = is_true _ (λ e. omega (arith, h b, self b, ap bit e, ap (λ x. bit (eqb x b)) first)) in
    (first, sym (eqb-true _ _ second))

-- ---- Enabled, state by state

module _ (P : Protocol) (c : List ℕ) (r : ℕ) where
  enabled_same : eqb (P.p r) (P.q r) ≡ true → enabled P c r ≡ ltb 1 (count c (P.p r))
  unfolding enabled
  enabled_same e = rw (e, enabled)

  enabled_other : eqb (P.p r) (P.q r) ≡ false → enabled P c r ≡ (ltb 0 (count c (P.p r)) && ltb 0 (count c (P.q r)))
  unfolding enabled
  enabled_other e = rw (e, enabled)

  -- A rule that is not enabled lacks an agent.
  pub disabled_same : eqb (P.p r) (P.q r) ≡ true → enabled P c r ≡ false → count c (P.p r) ≤ 1
  disabled_same e h = ltb-false _ _ (sym (enabled_same e) ∙ h)

  pub disabled_other : eqb (P.p r) (P.q r) ≡ false → enabled P c r ≡ false → (count c (P.p r) ≡ 0) ⊎ (count c (P.q r) ≡ 0)
  disabled_other e h =
      ⊎_elim
      (λ (z : ltb 0 (count c (P.p r)) ≡ false). inl (omega (arith, ltb-false 0 (count c (P.p r)) z)))
      (λ (z : ltb 0 (count c (P.q r)) ≡ false). inr (omega (arith, ltb-false 0 (count c (P.q r)) z)))
      (and_fails _ _ (sym (enabled_other e) ∙ h))

  -- An enabled rule takes no more than there is.
  pub enabled-pre : enabled P c r ≡ true → (i : ℕ) → pre P r i ≤ count c i
  enabled-pre h i = by_test (eqb a b) same other
    where
      a : ℕ
      a = P.p r

      b : ℕ
      b = P.q r

      same : eqb a b ≡ true → pre P r i ≤ count c i
      same e = go (ℕ_discrete a i)
        where
          go : Dec (a ≡ i) → pre P r i ≤ count c i
          go (yes d) =
              omega (
                arith,
                ltb-true 1 (count c a) (sym (enabled_same e) ∙ h),
                ap bit (eq-eqb _ _ d),
                ap bit
                    (eq-eqb _ _ (sym (eqb-true _ _ e) ∙ d)),
                ap (count c) d,
              )
          go (no d) = omega (arith, ap bit (ne_eqb _ _ d), ap bit (ne_eqb _ _ (λ f. d (eqb-true _ _ e ∙ f))))

      other : eqb a b ≡ false → pre P r i ≤ count c i
      other e = go (ℕ_discrete a i) (ℕ_discrete b i) (and_elim _ _ (sym (enabled_other e) ∙ h))
        where
          go : Dec (a ≡ i) → Dec (b ≡ i) → (ltb 0 (count c a) ≡ true) × (ltb 0 (count c b) ≡ true) → pre P r i ≤ count c i
          go (yes d) (yes f) s = absurd (eqb-false _ _ e (d ∙ sym f))
          go (yes d) (no f) s = omega (arith, ap bit (eq-eqb _ _ d), ap bit (ne_eqb _ _ f), ltb-true 0 (count c a) s.0, ap (count c) d)
          go (no d) (yes f) s = omega (arith, ap bit (ne_eqb _ _ d), ap bit (eq-eqb _ _ f), ltb-true 0 (count c b) s.1, ap (count c) f)
          go (no d) (no f) s = omega (arith, ap bit (ne_eqb _ _ d), ap bit (ne_eqb _ _ f))

  -- A rule that takes no more than there is is enabled.
  pub pre-enabled : ((i : ℕ) → i < P.states → pre P r i ≤ count c i) → P.p r < P.states → P.q r < P.states → enabled P c r ≡ true
  pre-enabled h hp hq =
      let a = P.p r in
      let b = P.q r in
      by_test (eqb a b)
      (λ e. enabled_same e ∙ lt-ltb 1 (count c a) (omega (arith, h a hp, self a, ap bit (eq-eqb _ _ (sym (eqb-true a b e))))))
      (λ e. enabled_other e ∙ and_intro _ _ (lt-ltb 0 (count c a) (omega (arith, h a hp, self a))) (lt-ltb 0 (count c b) (omega (arith, h b hq, self b))))

  -- ---- Firing

  pub length-fire : length (fire P c r) ≡ length c
  unfolding fire gain lose
  length-fire = simp length-set

module _ (P : Protocol) where
  -- Rule r fires at c (document 01: it makes a meeting).
  pub record Firing (c : List ℕ) (r : ℕ) : Type 0 where
    pub sized : length c ≡ P.states
    pub rule : r < P.rules
    pub on : enabled P c r ≡ true

module _ (P : Protocol) (good : WellFormed P) (c : List ℕ) (r : ℕ) (m : Firing P c r) where
  -- Some weight stays: before the meeting there is that and the before pair's, after it that and the after pair's.
  pub weigh-fire : (w : ℕ → ℕ) → (k : ℕ) × (weigh w c ≡ k + (w (P.p r) + w (P.q r))) × (weigh w (fire P c r) ≡ k + (w (P.p' r) + w (P.q' r)))
  unfolding fire
  weigh-fire w = (
    weigh w c₂,
    omega (arith, weigh-lose w c (P.p r) has_p, weigh-lose w c₁ (P.q r) has_q),
    omega (arith, weigh-gain w c₂ (P.p' r) in_p', weigh-gain w (gain c₂ (P.p' r)) (P.q' r) in_q'),
  )
    where
      has_p : 0 < count c (P.p r)
      has_p = omega (arith, enabled-pre P c r m.on (P.p r), self (P.p r))

      c₁ : List ℕ
      c₁ = lose c (P.p r)

      has_q : 0 < count c₁ (P.q r)
      has_q = omega (arith, enabled-pre P c r m.on (P.q r), self (P.q r), count-lose c (P.p r) (P.q r) has_p)

      c₂ : List ℕ
      c₂ = lose c₁ (P.q r)

      long : length c₂ ≡ P.states
      long = length-lose c₁ (P.q r) ∙ length-lose c (P.p r) ∙ m.sized

      in_p' : P.p' r < length c₂
      in_p' = omega (arith, good.p'_lt r m.rule, long)

      in_q' : P.q' r < length (gain c₂ (P.p' r))
      in_q' = omega (arith, good.q'_lt r m.rule, long, length-gain c₂ (P.p' r))

  -- The counts after the meeting, as a count is a weighed sum.
  pub count-fire : (i : ℕ) → count (fire P c r) i + pre P r i ≡ count c i + post P r i
  count-fire i = let k = weigh-fire (λ s. bit (eqb s i)) in omega (arith, k.1, k.2, weigh_one i (fire P c r), weigh_one i c)

  pub size-fire : size (fire P c r) ≡ size c
  unfolding size
  size-fire = let k = weigh-fire (λ _. 1) in omega (arith, k.1, k.2)

  -- A rule whose pairs differ leaves another configuration.
  pub fire_moves : fire P c r ≡ c → ⊥
  fire_moves same =
      let l = m.rule in
      let e = pair_same (P.p r) (P.q r) (P.p' r) (P.q' r) (good.pre_ordered r l) (good.post_ordered r l)
      (λ i. omega (arith, count-fire i, ap (λ d. count d i) same)) in
      good.pairs_differ r l e.0 e.1

-- ---- Terminal, and the output shown

-- The output by its two tests: a, whether every occupied state has output 0, and b, whether every one has output 1.
agreed_by : (a b v : Bool) → cond a (agreed false) (cond b (agreed true) mixed) ≡ agreed v → cond v b a ≡ true
agreed_by true b true h = cc
agreed_by true b false h = refl
agreed_by false true true h = refl
agreed_by false true false h = cc
agreed_by false false true h = cc
agreed_by false false false h = cc

mixed_by : (a b : Bool) → cond a (agreed false) (cond b (agreed true) mixed) ≡ mixed → (a ≡ false) × (b ≡ false)
mixed_by true b h = absurd (let z : ◌≡◌ {A = ℕ} 0 1 = cc in omega arith)
mixed_by false true h = absurd (let z : ◌≡◌ {A = ℕ} 0 1 = cc in omega arith)
mixed_by false false h = (refl, refl)

module _ (P : Protocol) (c : List ℕ) where
  pub terminal_off : terminal P c ≡ true → (r : ℕ) → r < P.rules → enabled P c r ≡ false
  unfolding terminal
  terminal_off t r h = not-true _ (all_elim _ _ t r h)

  -- A configuration at which a rule makes a meeting is not terminal.
  pub firing_not_terminal : (r : ℕ) → Firing P c r → terminal P c ≡ false
  firing_not_terminal r m = is_false _ (λ t. not_both m.on (terminal_off t r m.rule))

  -- A configuration that is not terminal enables a rule.
  pub not_terminal_on : terminal P c ≡ false → (r : ℕ) × (r < P.rules) × (enabled P c r ≡ true)
  unfolding terminal
  not_terminal_on t = let f = all_fails _ _ t in (f.0, f.1, not-false _ f.2)

  pub shows_is : length c ≡ P.states → (v : Bool) → (shows P v c ≡ true) ↔ Shows P v c
  unfolding shows
  shows_is long v = (
    λ h s l. beq_true _ _ (imp_elim _ _ (all_elim _ _ h s (omega (arith, occupied_lt c s l))) (lt-ltb _ _ l)),
    λ h. all_intro _ _ (λ s _. imp_intro (ltb 0 (count c s)) (beq (P.output s) v) (λ e. eq_beq _ _ (h s (ltb-true 0 (count c s) e)))),
  )

  -- Where not all occupied states have output v, one has the other output.
  shows_fails : (v : Bool) → shows P v c ≡ false → (s : ℕ) × (0 < count c s) × (P.output s ≡ not v)
  unfolding shows
  shows_fails v h =
      let f = all_fails _ _ h in
      let t = imp_fails (ltb 0 (count c f.0)) (beq (P.output f.0) v) f.2 in
      (f.0, ltb-true _ _ t.0, beq_false _ _ t.1)

  module _ (long : length c ≡ P.states) where
    -- Where an occupied state has the other output, not all have output v.
    shows_not : (v : Bool) (s : ℕ) → 0 < count c s → P.output s ≡ not v → shows P v c ≡ false
    shows_not v s l o = is_false _ (λ e. not_same v (sym ((shows_is long v).0 e s l) ∙ o))

    output_shows : (v : Bool) → output_of P c ≡ agreed v → shows P v c ≡ true
    unfolding output_of
    output_shows false = agreed_by (shows P false c) (shows P true c) false
    output_shows true = agreed_by (shows P false c) (shows P true c) true

    pub output_is : 0 < size c → (v : Bool) → (output_of P c ≡ agreed v) ↔ Shows P v c
    unfolding output_of size
    output_is some v = (λ h. (shows_is long v).0 (output_shows v h), back v)
      where
        o : (s : ℕ) × (0 < 1 * count c s)
        o = weigh-some (λ _. 1) c some

        back : (v : Bool) → Shows P v c → output_of P c ≡ agreed v
        back false h = rw ((shows_is long false).1 h)
        back true h = rw (shows_not false o.0 (omega (arith, o.1)) (h o.0 (omega (arith, o.1))), (shows_is long true).1 h)

    pub mixed_is : (output_of P c ≡ mixed) ↔ ((s : ℕ) × (t : ℕ) × (0 < count c s) × (0 < count c t) × (P.output s ≡ false) × (P.output t ≡ true))
    unfolding output_of
    mixed_is = (
      λ h.
          let n = mixed_by (shows P false c) (shows P true c) h in
          let t = shows_fails false n.0 in
          let s = shows_fails true n.1 in
          (s.0, t.0, s.1, t.1, s.2, t.2),
      λ w. rw (shows_not false w.1 w.3 w.5, shows_not true w.0 w.2 w.4),
    )

  -- ---- Starts

  unfit_input : (s : ℕ) → P.input s ≡ true → unfit P c s ≡ ltb (count c s) (P.fixed s)
  unfolding unfit
  unfit_input s e = rw (e, unfit)

  unfit_other : (s : ℕ) → P.input s ≡ false → unfit P c s ≡ not (eqb (count c s) (P.fixed s))
  unfolding unfit
  unfit_other s e = rw (e, unfit)

  -- A state is not unfit just where it keeps the start rule.
  pub fit_rule : (s : ℕ) → (unfit P c s ≡ false) ↔ StartRule P c s
  fit_rule s = (
    λ h. record {
      others = λ e. eqb-true _ _ (not-false _ (sym (unfit_other s e) ∙ h));
      inputs = λ e. ltb-false _ _ (sym (unfit_input s e) ∙ h);
    },
    λ rule.
        by_test (P.input s)
        (λ e. unfit_input s e ∙ le-ltb _ _ (rule.inputs e))
        (λ e. unfit_other s e ∙ ap not (eq-eqb _ _ (rule.others e))),
  )

  -- The start test passes just the starts.
  pub start_test_lem : length c ≡ P.states → 2 ≤ size c → (start_test P c ≡ P.states) ↔ Start P c
  unfolding start_test
  start_test_lem long enough = (
    λ h. record {
      sized = long;
      enough = enough;
      rule = λ s l. (fit_rule s).0 (first-lowest P.states (unfit P c) s (omega arith));
    },
    λ start. first_is P.states (unfit P c) P.states (omega arith) (λ s l. (fit_rule s).1 (start.rule s l)) (λ l. absurd (omega arith)),
  )

  -- What keeps the start rule: just the fixed agents, or at an input more.
  pub rule_bare : (s : ℕ) → count c s ≡ P.fixed s → StartRule P c s
  rule_bare s e = record { others = λ _. e; inputs = λ _. omega arith }

  pub rule_input : (s : ℕ) → P.input s ≡ true → P.fixed s ≤ count c s → StartRule P c s
  rule_input s i l = record { others = λ o. absurd (not_both i o); inputs = λ _. l }

  -- A state that keeps it holds its fixed agents; one that holds more is an input.
  pub rule_fixed : (s : ℕ) → StartRule P c s → P.fixed s ≤ count c s
  rule_fixed s rule = by_test (P.input s) rule.inputs (λ e. omega (arith, rule.others e))

  pub rule_spare : (s : ℕ) → StartRule P c s → P.fixed s < count c s → P.input s ≡ true
  rule_spare s rule l = is_true _ (λ e. omega (arith, rule.others e))

  -- Every state holds its fixed agents; where it is no input, only these.
  pub start_fixed : Start P c → (s : ℕ) → s < P.states → P.fixed s ≤ count c s
  start_fixed start s l = rule_fixed s (start.rule s l)

  pub start_only : Start P c → (s : ℕ) → s < P.states → only_fixed P s ≡ true → count c s ≡ P.fixed s
  start_only start s l e = (start.rule s l).others (not-true _ (and_elim (ltb 0 (P.fixed s)) (not (P.input s)) e).1)

  -- Without fixed agents the start rule is the paper's: agents in input states only.
  pub unfixed_rule : Unfixed P → (s : ℕ) → s < P.states → StartRule P c s ↔ (P.input s ≡ false → count c s ≡ 0)
  unfixed_rule none s l = (
    λ rule e. rule.others e ∙ none s l,
    λ h. record { others = λ e. h e ∙ sym (none s l); inputs = λ e. omega (arith, none s l) },
  )

-- The states that are not known to hold just their fixed agents: inputs, and those that have none.
pub only_not : (P : Protocol) (s : ℕ) → (only_fixed P s ≡ false) ↔ ((P.input s ≡ true) ⊎ (P.fixed s ≡ 0))
only_not P s = (
  λ e.
      ⊎_elim
      (λ (d : ltb 0 (P.fixed s) ≡ false). let l = ltb-false 0 (P.fixed s) d in inr (omega arith))
      (λ (d : not (P.input s) ≡ false). inl (not-false _ d))
      (and_fails (ltb 0 (P.fixed s)) (not (P.input s)) e),
  λ t.
      is_false _ (λ e.
      let f = and_elim (ltb 0 (P.fixed s)) (not (P.input s)) e in
      ⊎_elim
      (λ (i : P.input s ≡ true). not_both i (not-true _ f.1))
      (λ (n : P.fixed s ≡ 0). omega (arith, ltb-true 0 (P.fixed s) f.0))
      t),
)
