-- The handover test is exact (the paper's Proposition 4.4): it passes just where no configuration of any size breaks the
-- handover. Assumes nothing.
use Rattle.std.specs.Prelude.{◌≡◌, Bool, false, ◌&&◌, List, ◌↔◌, ℕ, ◌≤◌, ◌<◌, length}
use Rattle.std.proofs.Math.Bool.{true}
use Rattle.std.proofs.Common.{arith}
use Rattle.std.proofs.Math.Dec.{leb}
use borrow.Author.Tests.{ltb-true, leb-true, lt-ltb, le-leb}
use Rattle.theory.specs.Bool.{imp}
use Rattle.theory.proofs.Bool.Laws.{not_both, is_false, is_true, and_elim, and_intro, imp_elim, imp_fails}
use Rattle.theory.specs.Below.{any_below}
use Rattle.theory.specs.Below.Ends.{table}
use Rattle.theory.proofs.Below.Laws.{all_elim, all_intro, all_fails, any_elim, any_fails, length-table, get_or-table}
use Rattle.theory.specs.Protocol.{Protocol, WellFormed, count, pre, enabled, fire}
use Rattle.theory.proofs.Protocol.Laws.{Firing, enabled-pre, pre-enabled, count-fire}
use Rattle.theory.specs.Ladder.{Layers, is_lower, pre_sequence, fits, handover_at, handover, active, QuietBelow, Broken}
use Rattle.theory.proofs.Ladder.Active.{active_elim, active_intro}

module _ (P : Protocol) (L : Layers) (good : WellFormed P) where
  -- A rule is enabled if every state holds what the rule takes.
  rule_enabled : (c : List ℕ) (r : ℕ) → r < P.rules → ((i : ℕ) → i < P.states → pre P r i ≤ count c i) → enabled P c r ≡ true
  rule_enabled c r l h = pre-enabled P c r h (good.p_lt r l) (good.q_lt r l)

  -- A rule v that fits s and u is enabled wherever s is enabled and u is enabled after s.
  fits-enabled : (c : List ℕ) (s u v : ℕ) → Firing P c s → v < P.rules → fits P s u v ≡ true → enabled P (fire P c s) u ≡ true → enabled P c v ≡ true
  unfolding fits
  fits-enabled c s u v m hv f u_on =
      rule_enabled c v hv
      (λ i l.
      let inside : leb (pre P v i) (pre_sequence P s u i) ≡ true = all_elim _ _ f i l in
      omega (arith, leb-true, enabled-pre P c s m.on i, enabled-pre P (fire P c s) u u_on i, count-fire P good c s m i))

  module _ (s : ℕ) (rule : s < P.rules) where
    -- The test at s passes: no configuration breaks the handover there.
    handover_at_holds : handover_at P L s ≡ true → Broken P L s → ⊥
    unfolding handover_at is_lower
    handover_at_holds h (c, long, b) = not_both (active_intro P L c v found.1 on) (b.quiet (L.of v) (ltb-true _ _ split.0))
      where
        u_on : (u : ℕ) × (u < P.rules) × (L.of u ≡ b.then_active.0) × (enabled P (fire P c s) u ≡ true)
        u_on = active_elim P L (fire P c s) b.then_active.0 b.then_active.2

        u : ℕ
        u = u_on.0

        fit : ℕ → Bool
        fit k = is_lower L k s && fits P s u k

        lower : is_lower L u s ≡ true
        lower = lt-ltb (L.of u) (L.of s) (omega (arith, u_on.2, b.then_active.1))

        found : (k : ℕ) × (k < P.rules) × (fit k ≡ true)
        found = any_elim _ _ (imp_elim _ _ (all_elim _ _ h u u_on.1) lower)

        v : ℕ
        v = found.0

        split : (is_lower L v s ≡ true) × (fits P s u v ≡ true)
        split = and_elim _ _ found.2

        on : enabled P c v ≡ true
        on = fits-enabled c s u v (record { sized = long; rule = rule; on = b.on }) found.1 split.1 u_on.3

    -- The test at s fails at some u: the pre of the sequence s then u breaks the handover.
    pub handover_at_fails : handover_at P L s ≡ false → Broken P L s
    unfolding handover_at is_lower fits
    handover_at_fails h =
        (c, long, record { quiet = quiet; on = on; then_active = (L.of u, ltb-true _ _ split.0, active_intro P L (fire P c s) u missing.1 u_on) })
      where
        missing : (k : ℕ) × (k < P.rules) × (imp (is_lower L k s) (any_below P.rules (λ v. is_lower L v s && fits P s k v)) ≡ false)
        missing = all_fails _ _ h

        u : ℕ
        u = missing.0

        split : (is_lower L u s ≡ true) × (any_below P.rules (λ v. is_lower L v s && fits P s u v) ≡ false)
        split = imp_fails _ _ missing.2

        c : List ℕ
        c = table P.states (pre_sequence P s u)

        long : length c ≡ P.states
        long = length-table P.states (pre_sequence P s u)

        counts : (i : ℕ) → i < P.states → count c i ≡ pre_sequence P s u i
        counts = get_or-table P.states (pre_sequence P s u)

        on : enabled P c s ≡ true
        on = rule_enabled c s rule (λ i l. omega (arith, counts i l))

        m : Firing P c s
        m = record { sized = long; rule = rule; on = on }

        u_on : enabled P (fire P c s) u ≡ true
        u_on = rule_enabled (fire P c s) u missing.1 (λ i l. omega (arith, counts i l, count-fire P good c s m i))

        quiet : QuietBelow P L (L.of s) c
        quiet j lower = is_false _ not_quiet
          where
            not_quiet : active P L c j ≡ true → ⊥
            not_quiet e = not_both fit (any_fails _ _ split.1 v found.1)
              where
                found : (v : ℕ) × (v < P.rules) × (L.of v ≡ j) × (enabled P c v ≡ true)
                found = active_elim P L c j e

                v : ℕ
                v = found.0

                inside : (i : ℕ) → i < P.states → leb (pre P v i) (pre_sequence P s u i) ≡ true
                inside i l = le-leb (pre P v i) (pre_sequence P s u i) (omega (arith, counts i l, enabled-pre P c v found.3 i))

                fit : is_lower L v s && fits P s u v ≡ true
                fit = and_intro _ _ (lt-ltb (L.of v) (L.of s) (omega (arith, found.2))) (all_intro _ _ inside)

    -- The test at one rule is exact.
    pub handover_at_exact : (handover_at P L s ≡ true) ↔ (Broken P L s → ⊥)
    handover_at_exact = (handover_at_holds, λ none. is_true _ (λ e. none (handover_at_fails e)))

  -- The handover test is exact.
  pub handover_exact : (handover P L ≡ true) ↔ ((s : ℕ) → s < P.rules → Broken P L s → ⊥)
  unfolding handover
  handover_exact = (
    λ h s l. (handover_at_exact s l).0 (all_elim _ _ h s l),
    λ none. all_intro _ _ (λ s l. (handover_at_exact s l).1 (none s l)),
  )

module _ (P : Protocol) (L : Layers) (good : WellFormed P) (passes : handover P L ≡ true) where
  -- Where all layers below that of a rule are quiet, they are so after its meeting.
  pub quiet_fire : (c : List ℕ) (r : ℕ) → Firing P c r → QuietBelow P L (L.of r) c → QuietBelow P L (L.of r) (fire P c r)
  quiet_fire c r m quiet j l =
      is_false _ (λ e. (handover_exact P L good).0 passes r m.rule (c, m.sized, record { quiet = quiet; on = m.on; then_active = (j, l, e) }))
