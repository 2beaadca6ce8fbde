-- `ladder::single_if` meets its contract: 0 is the empty set.
use Rattle.std.proofs.Common.{rules}
use Rattle.ladder.specs.Code.Laws.{none_single}
use Rattle.ladder.proofs.single_if.Goals as goal

pub returns-in-None : goal.returns-in-None
returns-in-None c = search (none_single, rules)
