-- `bits::among` meets its contract: the set has the numbers below i that the test passed.
use Rattle.bits.specs.Code.{Among}
use Rattle.bits.proofs.among.Given as goal

abbrev pub invariant-loop-i : goal.invariant-loop-i
invariant-loop-i g l = Among (goal.F-post g l.test) l.i l.set
