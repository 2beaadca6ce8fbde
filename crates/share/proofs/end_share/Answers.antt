-- Each case is one of the definition.
use Rattle.std.proofs.Common.{rules}
use Rattle.share.specs.Code.Laws.{sharing}
use Rattle.share.proofs.end_share.Goals as goal

pub returns-then-y-ge10000 : goal.returns-then-y-ge10000
returns-then-y-ge10000 c = search (sharing, rules)

pub returns-then-has : goal.returns-then-has
returns-then-has c = search (sharing, rules)

pub returns-else-has : goal.returns-else-has
returns-else-has c = search (sharing, rules)
