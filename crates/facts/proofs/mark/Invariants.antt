-- The word of the party, if it is below `i`, is joined with the set.
use Rattle.std.proofs.Common.{◌≡◌, length}
use Rattle.theory.specs.Bool.{member}
use Rattle.facts.specs.Code.Laws.{MarkedBelow}
use Rattle.facts.proofs.mark.Given as goal

abbrev pub invariant-loop-i : goal.invariant-loop-i
invariant-loop-i g l = (length l.words ≡ length l.fn.words) × MarkedBelow l.first l.party l.i l.fn.words l.words (member l.set)
