-- The weights of the states below s are allowed, and gains and losses are the sums of theirs.
use Rattle.leaf.specs.Code.Laws.{Added}
use Rattle.threshold.specs.Code.{share_of}
use Rattle.threshold.proofs.sheet_closes.Given as goal

abbrev pub invariant-loop-s : goal.invariant-loop-s
invariant-loop-s l = Added 1125899906842624 (share_of l.t l.z l.states l.numbers l.one l.start l.end l.k) l.s l.gains l.losses
