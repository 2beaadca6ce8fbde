-- Good fields name a run and a set of states.
use Rattle.node.specs.Code.Laws.{names_set_lem}
use Rattle.std.proofs.Common.{rules}
use Rattle.node.proofs.names_set.Goals as goal

pub returns : goal.returns
returns c = search (names_set_lem, rules)
