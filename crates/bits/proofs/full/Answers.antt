-- The members of 2 ^ n - 1 are the numbers below n.
use Rattle.std.proofs.Common.{arith, pow_pos}
use Rattle.bits.specs.Code.Laws.{one_shl, full_is, full_all}
use Rattle.bits.proofs.full.Goals as goal

pub overflow_sub-result : goal.overflow_sub-result
overflow_sub-result c = omega (arith, one_shl 64 c.args.n c.if-n-lt64.true, pow_pos c.args.n)

pub returns-then-n-lt64 : goal.returns-then-n-lt64
returns-then-n-lt64 c = full_is c.args.n c.if-n-lt64.true

pub returns-else-n-lt64 : goal.returns-else-n-lt64
returns-else-n-lt64 c = full_all c.args.n c.if-n-lt64.false
