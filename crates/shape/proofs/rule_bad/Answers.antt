-- `shape::rule_bad` meets its contract: the fields are those of the record.
use Rattle.std.proofs.Common.{rules}
use Rattle.shape.proofs.ShapeLaws.{bad_read}
use Rattle.shape.proofs.rule_bad.Goals as goal

pub returns : goal.returns
returns c = search (bad_read, rules)
