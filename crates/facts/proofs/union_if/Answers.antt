-- The two sets are joined just where the test passed.
use Rattle.facts.specs.Code.Laws.{joins}
use Rattle.std.proofs.Common.{rules}
use Rattle.facts.proofs.union_if.Goals as goal

pub returns-then-t : goal.returns-then-t
returns-then-t c = search (joins, rules)

pub returns-else-t : goal.returns-else-t
returns-else-t c = search (joins, rules)
