-- The state joins as often as the definition says.
use Rattle.std.proofs.Common.{rules}
use Rattle.share.specs.Code.Laws.{sharing}
use Rattle.share.proofs.start_share.Goals as goal

pub returns : goal.returns
returns c = search (sharing, rules)
