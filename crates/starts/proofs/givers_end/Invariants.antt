-- `starts::givers_end` meets its contract: no state from s on, and below `last`, has more than its fixed agents.
use Rattle.std.proofs.Common.{◌≡◌, []}
use Rattle.theory.specs.Below.Ends.{end_below}
use Rattle.theory.specs.Starts.Next.{has_spare}
use Rattle.format.specs.Format.{protocol_of}
use Rattle.starts.proofs.givers_end.Given as goal

abbrev pub invariant-loop-s : goal.invariant-loop-s
invariant-loop-s l =
    end_below l.fn.last (has_spare (protocol_of l.fn.z l.states []) l.counts) ≡ end_below l.s (has_spare (protocol_of l.fn.z l.states []) l.counts)
