-- `ladder::layer_spread` meets its contract: `low` and `high` are the least and the greatest weight of the states below `s`.
use Rattle.std.proofs.Common.{◌≡◌}
use Rattle.theory.specs.Below.{least, greatest}
use Rattle.format.specs.Format.{layer_weight}
use Rattle.ladder.proofs.layer_spread.Given as goal

abbrev pub invariant-loop-s : goal.invariant-loop-s
invariant-loop-s l =
    (l.low ≡ least l.s (layer_weight l.z.states l.layers l.l)) × (l.high ≡ greatest l.s (layer_weight l.z.states l.layers l.l))
