-- `shape::mark` meets its contract: the fields are bytes, so no sum overflows.
use Rattle.std.proofs.Common.{rules}
use Rattle.shape.proofs.MarkLaws.{whole_mark, pair_mark}
use Rattle.shape.proofs.mark.Goals as goal

pub returns-then-whole : goal.returns-then-whole
returns-then-whole c = search (whole_mark, rules)

pub returns : goal.returns
returns c = search (pair_mark, rules)
