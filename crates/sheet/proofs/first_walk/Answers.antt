-- The nodes are those of the first tree.
use Rattle.sheet.specs.Code.Laws.{tree_sound, first_is}
use Rattle.std.proofs.Common.{rules}
use Rattle.sheet.proofs.first_walk.Goals as goal

pub walk_sheet-requires : goal.walk_sheet-requires
walk_sheet-requires c = search (tree_sound, rules)

pub returns : goal.returns
returns c = search (first_is, rules)
