-- The weights of the states below s are allowed, and gains and losses are the sums of theirs.
use Rattle.leaf.specs.Code.{share_of}
use Rattle.leaf.specs.Code.Laws.{Added}
use Rattle.leaf.proofs.leaf_closes.Given as goal

abbrev pub invariant-loop-s : goal.invariant-loop-s
invariant-loop-s l = Added 68719476736 (share_of l.by l.z l.states l.leaves l.l l.start l.first l.second) l.s l.gains l.losses
