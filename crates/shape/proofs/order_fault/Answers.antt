-- `shape::order_fault` meets its contract: no rule below `i` is out of order, and the rule before `i` is held.
use Rattle.std.proofs.Common.{rules}
use Rattle.shape.proofs.ShapeLaws.{order_begins, order_goes_on, order_stops, order_ends, order_untried}
use Rattle.shape.proofs.order_fault.Goals as goal

pub returns-then-z-ne2 : goal.returns-then-z-ne2
returns-then-z-ne2 c = search (order_untried, rules)

pub loop-i-init : goal.loop-i-init
loop-i-init c = search (order_begins, rules)

pub returns-then-not-rule_before : goal.returns-then-not-rule_before
returns-then-not-rule_before c = search (order_stops, rules)

pub loop-i-preserved : goal.loop-i-preserved
loop-i-preserved c = search (order_goes_on, rules)

pub returns : goal.returns
returns c = search (order_ends, rules)
