-- The rule is unused, or its two pairs are weighed.
use Rattle.std.proofs.Common.{rules}
use Rattle.leaf.specs.Code.Laws.{rule_keeping}
use Rattle.leaf.proofs.rule_keeps.Goals as goal

pub returns-then-has : goal.returns-then-has
returns-then-has c = search (rule_keeping, rules)

pub returns-then-before-after : goal.returns-then-before-after
returns-then-before-after c = search (rule_keeping, rules)

pub returns-else-before-after : goal.returns-else-before-after
returns-else-before-after c = search (rule_keeping, rules)
