-- A word is a set of states just where its members are below their number.
use Rattle.node.specs.Code.Laws.{set_is}
use Rattle.std.proofs.Common.{rules}
use Rattle.node.proofs.is_set.Goals as goal

pub returns : goal.returns
returns c = search (set_is, rules)
