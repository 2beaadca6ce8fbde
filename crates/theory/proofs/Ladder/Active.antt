-- Layers that have an enabled rule, and the lowest of them. Assumes nothing.
use Rattle.std.specs.Prelude.{◌≡◌, refl, true, false, List, ℕ, ◌≤◌, ◌<◌}
use Rattle.std.proofs.Common.{arith, eqb-true, eq-eqb}
use Rattle.theory.proofs.Bool.Laws.{and_elim, and_intro}
use Rattle.theory.proofs.Below.Laws.{any_elim, any_intro, first_passes, first-lowest, first_min}
use Rattle.theory.specs.Protocol.{Protocol, enabled, terminal}
use Rattle.theory.proofs.Protocol.Laws.{not_terminal_on}
use Rattle.theory.specs.Ladder.{Layers, OrderedPartition, enabled_in, active, QuietBelow, lowest}

module _ (P : Protocol) (L : Layers) (c : List ℕ) where
  pub enabled_in_elim : (k r : ℕ) → enabled_in P L c k r ≡ true → (L.of r ≡ k) × (enabled P c r ≡ true)
  unfolding enabled_in
  enabled_in_elim k r e = let s = and_elim _ _ e in (eqb-true _ _ s.0, s.1)

  pub active_elim : (k : ℕ) → active P L c k ≡ true → (r : ℕ) × (r < P.rules) × (L.of r ≡ k) × (enabled P c r ≡ true)
  unfolding active
  active_elim k e =
      let f = any_elim _ _ e in
      let s = enabled_in_elim k f.0 f.2 in
      (f.0, f.1, s.0, s.1)

  pub active_intro : (r : ℕ) → r < P.rules → enabled P c r ≡ true → active P L c (L.of r) ≡ true
  unfolding active enabled_in
  active_intro r l on = any_intro _ _ r l (and_intro _ _ (eq-eqb (L.of r) (L.of r) refl) on)

  -- Every layer below the lowest is quiet, and no active layer is lower.
  pub lowest_quiet : QuietBelow P L (lowest P L c) c
  unfolding lowest
  lowest_quiet = first-lowest _ _

  pub lowest_le : (k : ℕ) → active P L c k ≡ true → lowest P L c ≤ k
  unfolding lowest
  lowest_le = first_min _ _

  pub lowest-active : lowest P L c < L.count → active P L c (lowest P L c) ≡ true
  unfolding lowest
  lowest-active = first_passes _ _

  -- Where a rule is enabled there is a lowest layer.
  pub not_terminal-lowest : OrderedPartition P L → terminal P c ≡ false → lowest P L c < L.count
  not_terminal-lowest part t =
      let f = not_terminal_on P c t in
      omega (arith, lowest_le (L.of f.0) (active_intro f.0 f.1 f.2), part.covers f.0 f.1)
