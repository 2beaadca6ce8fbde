-- `shape::used_layers` meets its contract: the layers of the rules below `r` are in the set.
use Rattle.std.proofs.Common.{◌≡◌}
use Rattle.theory.specs.Bool.{member}
use Rattle.shape.specs.Code.{used_below}
use Rattle.shape.proofs.used_layers.Given as goal

abbrev pub invariant-loop-r : goal.invariant-loop-r
invariant-loop-r l = member l.used ≡ used_below l.rules l.r
