-- Each return is a case of the definition.
use Rattle.std.proofs.Common.{rules}
use Rattle.leaf.specs.Code.Laws.{sharing}
use Rattle.leaf.proofs.share_at.Goals as goal

pub returns-then-y1-y2 : goal.returns-then-y1-y2
returns-then-y1-y2 c = search (sharing, rules)

pub returns : goal.returns
returns c = search (sharing, rules)
