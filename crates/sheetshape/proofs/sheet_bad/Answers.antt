-- The header is bad, or a number or a leaf is, or nothing is.
use Rattle.sheetshape.specs.Code.{faults}
use Rattle.std.proofs.Common.{rules}
use Rattle.sheetshape.proofs.sheet_bad.Goals as goal

pub returns-then-header : goal.returns-then-header
returns-then-header c = search (faults, rules)

pub returns-then-is_some : goal.returns-then-is_some
returns-then-is_some c = search (faults, rules)

pub returns-else-is_some : goal.returns-else-is_some
returns-else-is_some c = search (faults, rules)
