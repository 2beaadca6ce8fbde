-- The two marks, one after the other.
use Rattle.node.specs.Code.Laws.{gone_is}
use Rattle.std.proofs.Common.{rules}
use Rattle.node.proofs.mark_gone.Goals as goal

pub returns : goal.returns
returns c = search (gone_is, rules)
