-- `counts::choose` meets its contract: the best of the rules below `r` is known.
use Rattle.format.specs.Format.{protocol_of, layers_of}
use Rattle.counts.specs.Code.Laws.{Best}
use Rattle.counts.proofs.choose.Given as goal

abbrev pub invariant-loop-r : goal.invariant-loop-r
invariant-loop-r l = Best (protocol_of l.fn.z l.states l.rules) (layers_of l.fn.z l.rules) l.counts l.r l.best l.low
