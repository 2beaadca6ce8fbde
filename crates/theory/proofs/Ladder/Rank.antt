-- The rank of a configuration falls at each layered meeting, is 0 just where no rule is enabled, and is at most size
-- times the sum of the spreads. Assumes nothing.
use Rattle.std.specs.Prelude.{◌≡◌, false, List, ◌↔◌, length}
use Rattle.std.proofs.Common.{ap, mul-le-mul_left, ltb-true}
use Rattle.std.proofs.Math.Bool.{true}
use Rattle.std.proofs.Math.Logic.{by_cases}
use Prim.Native.Nat.{ℕ, suc, ◌+◌, ◌-◌, ◌*◌, ◌≤◌, ◌<◌}
use native.Mathlib.Omega.{arith}
use Rattle.std.proofs.Math.Decide.{dec_lt}
use Rattle.std.proofs.Math.Nat.{mul-sub}
use Rattle.theory.proofs.Bool.Laws.{by_test, not_both, is_true}
use Rattle.theory.specs.Below.{sum_below, least, greatest}
use Rattle.theory.proofs.Below.Laws.{all_elim, sum_to, least_le, le_greatest}
use Rattle.theory.specs.Weigh.{weigh}
use Rattle.theory.proofs.Weigh.Laws.{weigh_mono, weigh_const}
use Rattle.theory.specs.Protocol.{Protocol, size, fire, terminal}
use Rattle.theory.proofs.Protocol.Laws.{Firing, length-fire, weigh-fire, size-fire, firing_not_terminal}
use Rattle.theory.specs.Ladder.{Layers, OrderedPartition, lowers_at, lowering, Laddered, lowest, spread, spreads, spreads_above, rank_at, rank}
use Rattle.theory.proofs.Ladder.Active.{active_elim, lowest_quiet, lowest-active, not_terminal-lowest}
use Rattle.theory.proofs.Ladder.Handover.{quiet_fire}

module _ (n : ℕ) (v : ℕ → ℕ) (c : List ℕ) (long : length c ≡ n) where
  -- A configuration weighs at least size times the least weight.
  pub weigh-least : size c * least n v ≤ weigh v c
  unfolding size
  weigh-least = omega (arith, weigh_const (least n v) c, weigh_mono (λ _. least n v) v c (λ i l. least_le n v i (omega arith)))

  -- What it weighs over that is at most size times the spread.
  pub weigh-spread : weigh v c - size c * least n v ≤ size c * spread n v
  unfolding size spread
  weigh-spread =
      omega (
        arith,
        weigh_const (greatest n v) c,
        weigh_mono v (λ _. greatest n v) c (λ i l. le_greatest n v i (omega arith)),
        mul-sub (size c)
            (greatest n v) (least n v),
      )

module _ (P : Protocol) (L : Layers) (w : ℕ → ℕ → ℕ) where
  abbrev spread_of : ℕ → ℕ
  spread_of k = spread P.states (w k)

  sum_above : (i : ℕ) → i < L.count → spreads P L w ≡ sum_below (suc i) spread_of + spreads_above P L w i
  unfolding spreads spreads_above
  sum_above i h = sum_to (suc i) L.count spread_of h

  above_le : (i : ℕ) → i < L.count → spread_of i + spreads_above P L w i ≤ spreads P L w
  unfolding sum_below
  above_le i h = omega (arith, sum_above i h)

  above_step : (i j : ℕ) → i < j → j < L.count → spread_of j + spreads_above P L w j ≤ spreads_above P L w i
  unfolding sum_below
  above_step i j h l = omega (arith, sum_above i (omega arith), sum_above j l, sum_to (suc i) j spread_of h)

  rank_at_le : (i : ℕ) (c : List ℕ) → length c ≡ P.states → rank_at P L w i c ≤ size c * (spread_of i + spreads_above P L w i)
  unfolding rank_at
  rank_at_le i c long = omega (arith, weigh-spread P.states (w i) c long)

  rank-terminal : (c : List ℕ) → terminal P c ≡ true → rank P L w c ≡ 0
  unfolding rank
  rank-terminal c t = rw (t, rank)

  rank_not_terminal : (c : List ℕ) → terminal P c ≡ false → rank P L w c ≡ rank_at P L w (lowest P L c) c
  unfolding rank
  rank_not_terminal c t = rw (t, rank)

  pub rank-bound : OrderedPartition P L → (c : List ℕ) → length c ≡ P.states → rank P L w c ≤ size c * spreads P L w
  rank-bound part c long =
      by_test (terminal P c)
      (λ t. omega (arith, rank-terminal c t))
      (λ t. omega (
        arith,
        rank_not_terminal c t,
        rank_at_le (lowest P L c) c long,
        mul-le-mul_left (size c)
            (above_le (lowest P L c) (not_terminal-lowest P L c part t)),
      ))

module _ (P : Protocol) {L : Layers} {w : ℕ → ℕ → ℕ} (lad : Laddered P L w) where
  -- A meeting lowers its layer's weight.
  pub weigh_falls : (c : List ℕ) (r : ℕ) → Firing P c r → weigh (w (L.of r)) (fire P c r) < weigh (w (L.of r)) c
  unfolding lowering lowers_at
  weigh_falls c r m =
      let low : lowers_at P L w r ≡ true = all_elim _ _ lad.lowering_passes r m.rule in
      let k = weigh-fire P lad.formed c r m (w (L.of r)) in
      omega (arith, k.1, k.2, ltb-true)

  -- Rule r of the lowest layer that has an enabled rule makes a meeting at c.
  module _ (c : List ℕ) (r : ℕ) (m : Firing P c r) (low : L.of r ≡ lowest P L c) where
    lowest_rises : lowest P L c ≤ lowest P L (fire P c r)
    lowest_rises =
        let d = fire P c r in
        by_cases (dec_lt (lowest P L d) (lowest P L c))
        (λ l.
        absurd (not_both
        (lowest-active P L d (omega (arith, lad.partition.covers r m.rule)))
        (quiet_fire P L lad.formed lad.handover_passes c r m (rw low (lowest_quiet P L c)) (lowest P L d) (omega arith))))
        (λ g. omega arith)

    pub rank_falls : rank P L w (fire P c r) < rank P L w c
    unfolding rank_at
    rank_falls =
        by_test (terminal P d)
        (λ t. omega (arith, rank-terminal P L w d t, rank_not_terminal P L w c going, over))
        (λ t. by_cases (dec_lt i (lowest P L d)) (up t) (level t))
      where
        i : ℕ
        i = lowest P L c

        d : List ℕ
        d = fire P c r

        long : length d ≡ P.states
        long = rw (length-fire P c r) m.sized

        same : size d ≡ size c
        same = size-fire P lad.formed c r m

        lighter : weigh (w i) d < weigh (w i) c
        lighter = rw low at (weigh_falls c r m)

        going : terminal P c ≡ false
        going = firing_not_terminal P c r m

        leasts : size d * least P.states (w i) ≡ size c * least P.states (w i)
        leasts = ap (λ n. n * least P.states (w i)) same

        aboves : size d * spreads_above P L w i ≡ size c * spreads_above P L w i
        aboves = ap (λ n. n * spreads_above P L w i) same

        here : rank_at P L w i d < rank_at P L w i c
        here = omega (arith, weigh-least P.states (w i) d long, lighter, leasts, aboves)

        over : size d * spreads_above P L w i < rank_at P L w i c
        over = omega (arith, weigh-least P.states (w i) d long, lighter, leasts, aboves)

        level : terminal P d ≡ false → ¬ (i < lowest P L d) → rank P L w d < rank P L w c
        level t g =
            let e : lowest P L d ≡ i = omega (arith, lowest_rises) in
            omega (arith, rank_not_terminal P L w d t, ap (λ k. rank_at P L w k d) e, rank_not_terminal P L w c going, here)

        up : terminal P d ≡ false → i < lowest P L d → rank P L w d < rank P L w c
        up t l =
            omega (
              arith,
              rank_not_terminal P L w d t,
              rank_at_le P L w (lowest P L d) d long,
              mul-le-mul_left (size d) (above_step P L w i (lowest P L d) l (not_terminal-lowest P L d lad.partition t)),
              rank_not_terminal P L w c going,
              over,
            )

  pub rank_positive : (c : List ℕ) → length c ≡ P.states → terminal P c ≡ false → 0 < rank P L w c
  rank_positive c long t =
      let f = active_elim P L c (lowest P L c) (lowest-active P L c (not_terminal-lowest P L c lad.partition t)) in
      omega (arith, rank_falls c f.0 (record { sized = long; rule = f.1; on = f.3 }) f.2)

  pub rank_zero : (c : List ℕ) → length c ≡ P.states → (rank P L w c ≡ 0) ↔ (terminal P c ≡ true)
  rank_zero c long = (λ e. is_true _ (λ t. omega (arith, rank_positive c long t)), rank-terminal P L w c)
