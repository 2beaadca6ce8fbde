-- `shape::used_layers` meets its contract: the layers of the rules below `r` are in the set.
use Rattle.std.proofs.Common.{rules}
use Rattle.shape.proofs.MarkLaws.{used_none, used_more, used_done}
use Rattle.shape.proofs.used_layers.Goals as goal

pub loop-r-init : goal.loop-r-init
loop-r-init c = used_none _

pub loop-r-preserved : goal.loop-r-preserved
loop-r-preserved c = search (used_more, rules)

pub returns : goal.returns
returns c = search (used_done, rules)
