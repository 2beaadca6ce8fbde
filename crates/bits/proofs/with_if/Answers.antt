-- The bit of the test is joined at place i; from 64 on there is no place.
use Rattle.std.proofs.Common.{rules}
use Rattle.bits.specs.Code.Laws.{with_if_is, with_if_none}
use Rattle.bits.proofs.with_if.Goals as goal

pub returns-then-i-lt64 : goal.returns-then-i-lt64
returns-then-i-lt64 c = search (with_if_is, rules)

pub returns : goal.returns
returns c = search (with_if_none, rules)
