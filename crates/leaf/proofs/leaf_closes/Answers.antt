-- The weights of the states below s are allowed, and gains and losses are the sums of theirs.
use Rattle.std.proofs.Common.{rules}
use Rattle.leaf.specs.Code.Laws.{adding, closings}
use Rattle.leaf.proofs.leaf_closes.Goals as goal

pub returns-then-not-rules_keep : goal.returns-then-not-rules_keep
returns-then-not-rules_keep c = search (closings, rules)

pub returns-then-not-rules_keep-2 : goal.returns-then-not-rules_keep-2
returns-then-not-rules_keep-2 c = search (closings, rules)

pub loop-s-init : goal.loop-s-init
loop-s-init c = search (adding, rules)

pub returns-then-not-one : goal.returns-then-not-one
returns-then-not-one c = search (closings, rules)

pub loop-s-preserved : goal.loop-s-preserved
loop-s-preserved c = search (adding, rules)

pub returns : goal.returns
returns c = search (closings, rules)
