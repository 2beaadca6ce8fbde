-- The weights of a leaf are those of a docket's first leaf at end 1.
use Rattle.sheetshape.specs.Code.{leaf_is_bad}
use Rattle.std.proofs.Common.{rules}
use Rattle.sheetshape.proofs.leaf_bad.Goals as goal

pub returns : goal.returns
returns c = search (leaf_is_bad, rules)
