-- The rules of the words before this one are unused or keep the weight.
use Rattle.bits.specs.Code.{in_words}
use Rattle.leaf.specs.Code.Laws.{KeptBelow}
use Rattle.leaf.proofs.rules_keep.Given as goal

abbrev pub invariant-loop-word : goal.invariant-loop-word
invariant-loop-word l = KeptBelow l.by l.z l.rules l.leaves l.l l.e (in_words l.set) l.word
