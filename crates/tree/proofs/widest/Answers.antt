-- The widest set of the nodes below i is known.
use Rattle.std.proofs.Common.{rules}
use Rattle.tree.specs.Code.Laws.{widths}
use Rattle.tree.proofs.widest.Goals as goal

pub loop-i-init : goal.loop-i-init
loop-i-init c = search (widths, rules)

pub loop-i-preserved : goal.loop-i-preserved
loop-i-preserved c = search (widths, rules)

pub returns : goal.returns
returns c = search (widths, rules)
