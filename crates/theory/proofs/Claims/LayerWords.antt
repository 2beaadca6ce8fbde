-- The words about layers are document 01's. Assumes nothing.
use Rattle.std.specs.Prelude.{◌≡◌, true, false, ◌↔◌, ℕ, zero, suc, ◌-◌, ◌≤◌, ◌<◌}
use Rattle.std.proofs.Math.Path.{refl}
use Rattle.std.proofs.Common.{sym, arith}
use mathlib.Core.List.{List, [], ◌∷◌}
use Rattle.std.proofs.Math.Logic.{by_cases}
use Rattle.std.proofs.Math.Decide.{dec_lt}
use borrow.Author.Tests.{eq-eqb}
use Rattle.theory.proofs.Bool.Laws.{not_both, is_true, is_false, and_intro, imp_intro}
use Rattle.theory.proofs.Below.Laws.{first_le, least_le, le_greatest, least_at, greatest_at}
use Rattle.theory.specs.Protocol.{Protocol, WellFormed, enabled, terminal, fires, tried, EachMeeting}
use Rattle.theory.proofs.Protocol.Laws.{terminal_off}
use Rattle.theory.proofs.Protocol.Lists.{fires_rule}
use Rattle.theory.specs.Ladder.{Layers, OrderedPartition, active, QuietBelow, lowest, layered, spread}
use Rattle.theory.proofs.Ladder.Active.{active_elim, active_intro, lowest_quiet, lowest_le, lowest-active, not_terminal-lowest}
use Rattle.theory.proofs.Ladder.Lists.{layered-each}
use Rattle.theory.specs.Claims.{LayersAre}

spread_is : (f : ℕ → ℕ) (n : ℕ) → 0 < n → (s : ℕ) × (t : ℕ) × (s < n) × (t < n) × (spread n f ≡ f s - f t) × ((u : ℕ) → u < n → (f t ≤ f u) × (f u ≤ f s))
unfolding spread
spread_is f zero l = absurd (omega arith)
spread_is f (suc n) l =
    let a = greatest_at f n in
    let b = least_at f n in (
      a.0,
      b.0,
      a.1,
      b.1,
      rw (a.2, b.2),
      λ u m. (omega (arith, b.2, least_le (suc n) f u m), omega (arith, a.2, le_greatest (suc n) f u m)),
    )

module _ (P : Protocol) {L : Layers} (part : OrderedPartition P L) where
  quiet_is : (c : List ℕ) (k : ℕ) → (active P L c k ≡ false) ↔ ((r : ℕ) → r < P.rules → L.of r ≡ k → enabled P c r ≡ false)
  quiet_is c k = (
    λ q r l e. is_false _ (λ on. not_both (rw e at (active_intro P L c r l on)) q),
    λ h. is_false _ (λ a. let f = active_elim P L c k a in not_both f.3 (h f.0 f.1 f.2)),
  )

  lowest_is : (c : List ℕ) (k : ℕ) → k < L.count → (lowest P L c ≡ k) ↔ ((active P L c k ≡ true) × QuietBelow P L k c)
  lowest_is c k l = (
    λ e. (rw e at (lowest-active P L c (omega arith)), rw e at (lowest_quiet P L c)),
    λ h.
        let le = lowest_le P L c k h.0 in
        by_cases (dec_lt (lowest P L c) k)
        (λ m. absurd (not_both (lowest-active P L c (omega arith)) (h.1 (lowest P L c) m)))
        (λ g. omega arith),
  )

  no_lowest : (c : List ℕ) → (lowest P L c ≡ L.count) ↔ (terminal P c ≡ true)
  unfolding lowest
  no_lowest c = (
    λ e. is_true _ (λ t. omega (arith, not_terminal-lowest P L c part t)),
    λ t.
        by_cases (dec_lt (lowest P L c) L.count)
        (λ m. let f = active_elim P L c (lowest P L c) (lowest-active P L c m) in absurd (not_both f.3 (terminal_off P c t f.0 f.1)))
        (λ g. omega (arith, first_le L.count (active P L c))),
  )

  -- Just before a meeting by rule r, all layers below that of r are quiet just where it is the lowest.
  quiet_lowest : (c : List ℕ) (r : ℕ) → fires P c r ≡ true → QuietBelow P L (L.of r) c → L.of r ≡ lowest P L c
  quiet_lowest c r on q =
      let m = fires_rule P c r on in
      sym ((lowest_is c (L.of r) (part.covers r m.0)).1 (active_intro P L c r m.0 m.1, q))

  layered_from : (c rs : List ℕ) → EachMeeting P (λ d r. QuietBelow P L (L.of r) d) c rs → layered P L c rs ≡ true
  unfolding layered
  layered_from c [] h = refl
  layered_from c (r ∷ rs) h =
      and_intro _ _ (imp_intro _ _ (λ on. eq-eqb _ _ (quiet_lowest c r on (h.0 on)))) (layered_from (tried P c r) rs h.1)

  lowest-each : (c rs : List ℕ) → EachMeeting P (λ d r. L.of r ≡ lowest P L d) c rs → EachMeeting P (λ d r. QuietBelow P L (L.of r) d) c rs
  lowest-each c [] h = tt
  lowest-each c (r ∷ rs) h = (λ on. rw (h.0 on) (lowest_quiet P L c), lowest-each (tried P c r) rs h.1)

  pub layers_are : WellFormed P → (w : ℕ → ℕ → ℕ) (c : List ℕ) → LayersAre P L w c
  layers_are good w c = record {
    active_is = λ k. (active_elim P L c k, λ f. rw f.2 at (active_intro P L c f.0 f.1 f.3));
    quiet_is = quiet_is c;
    lowest_is = lowest_is c;
    no_lowest = no_lowest c;
    layered_is = λ rs. (λ h. lowest-each c rs (layered-each P L c rs h), layered_from c rs);
    spread_is = λ k. let i = good.some_input in spread_is (w k) P.states (omega (arith, i.1));
  }
