-- The share is the definition's.
use Rattle.std.proofs.Common.{rules}
use Rattle.share.specs.Code.Laws.{sharing}
use Rattle.share.proofs.end_remainder.Goals as goal

pub returns : goal.returns
returns c = search (sharing, rules)
