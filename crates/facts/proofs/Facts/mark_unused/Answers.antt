-- One sort of facts is extended, the others stay.
use Rattle.facts.specs.Code.Laws.{joins, marks}
use Rattle.std.proofs.Common.{rules}
use Rattle.facts.proofs.Facts.mark_unused.Goals as goal

pub returns : goal.returns
returns c = search (joins, marks, rules)
