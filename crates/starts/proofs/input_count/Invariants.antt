-- `starts::input_count` meets its contract: the inputs below s are counted.
use Rattle.std.proofs.Common.{◌≡◌, ◌≤◌}
use Rattle.starts.specs.Code.{inputs_below}
use Rattle.starts.proofs.input_count.Given as goal

abbrev pub invariant-loop-s : goal.invariant-loop-s
invariant-loop-s l = (l.n ≤ l.s) × (l.n ≡ inputs_below l.fn.z l.states l.s)
