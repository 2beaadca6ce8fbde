-- `1 << i` is 2 ^ i, whose only member is i.
use Rattle.bits.specs.Code.Laws.{single_is, single_none}
use Rattle.bits.proofs.single.Goals as goal

pub returns-then-i-lt64 : goal.returns-then-i-lt64
returns-then-i-lt64 c = single_is c.args.i c.if-i-lt64.true

pub returns-else-i-lt64 : goal.returns-else-i-lt64
returns-else-i-lt64 c = single_none c.args.i c.if-i-lt64.false
