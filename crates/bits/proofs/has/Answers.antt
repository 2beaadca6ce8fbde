-- Bit i is the lowest digit of the word shifted by i, and no bit from 64 on is set.
use Rattle.std.proofs.Common.{sym, rules}
use Rattle.theory.specs.Bool.{member}
use Rattle.bits.specs.Code.Laws.{member_above}
use Rattle.bits.proofs.has.Goals as goal

pub returns-then-i-lt64 : goal.returns-then-i-lt64
unfolding member
returns-then-i-lt64 c = search rules

pub returns-else-i-lt64 : goal.returns-else-i-lt64
returns-else-i-lt64 c = sym (member_above 64 c.args.w c.args.i c.ranges.w.fits c.if-i-lt64.false)
