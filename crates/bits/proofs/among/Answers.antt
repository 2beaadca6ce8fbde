-- `bits::among` meets its contract: the set has the numbers below i that the test passed.
use Rattle.std.proofs.Common.{rules}
use Rattle.bits.specs.Code.Laws.{gather_none, gather_more}
use Rattle.bits.proofs.among.Goals as goal

pub loop-i-init : goal.loop-i-init
loop-i-init g c = search (gather_none, rules)

pub loop-i-preserved : goal.loop-i-preserved
loop-i-preserved g c = search (gather_more, rules)
