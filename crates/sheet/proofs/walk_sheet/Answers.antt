-- The aim is that of the first tree, or of the second.
use Rattle.sheet.specs.Code.Laws.{walk_is}
use Rattle.std.proofs.Common.{rules}
use Rattle.sheet.proofs.walk_sheet.Goals as goal

pub returns : goal.returns
returns c = search (walk_is, rules)
