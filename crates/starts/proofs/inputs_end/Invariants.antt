-- `starts::inputs_end` meets its contract: no state from s on is an input.
use Rattle.std.proofs.Common.{◌≡◌}
use Rattle.theory.specs.Below.Ends.{end_below}
use Rattle.format.specs.Format.{is_input}
use Rattle.starts.proofs.inputs_end.Given as goal

abbrev pub invariant-loop-s : goal.invariant-loop-s
invariant-loop-s l = end_below l.z.states (is_input l.z l.states) ≡ end_below l.s (is_input l.z l.states)
