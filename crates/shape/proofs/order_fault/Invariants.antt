-- `shape::order_fault` meets its contract: no rule below `i` is out of order, and the rule before `i` is held.
use Rattle.shape.proofs.ShapeLaws.{InOrderTo}
use Rattle.shape.proofs.order_fault.Given as goal

abbrev pub invariant-loop-i : goal.invariant-loop-i
invariant-loop-i l = InOrderTo l.rules l.before l.i
