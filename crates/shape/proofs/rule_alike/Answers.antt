-- `shape::rule_alike` meets its contract: the fields are those of rule `e`.
use Rattle.std.proofs.Common.{refl}
use borrow.Author.Tests.{eq-eqb, ne_eqb}
use Rattle.shape.proofs.MarkLaws.{alike_read}
use Rattle.shape.proofs.rule_alike.Goals as goal

pub returns-then-one-other : goal.returns-then-one-other
returns-then-one-other c = alike_read _ _ _ _ _ _ c.read_rule-one.ensures (rw (eq-eqb _ _ c.if-one-other.true) refl)

pub returns-else-one-other : goal.returns-else-one-other
returns-else-one-other c = alike_read _ _ _ _ _ _ c.read_rule-one.ensures (rw (ne_eqb _ _ c.if-one-other.false) refl)
