-- Good fields name a run and a rule, and the states of a rule are below 64.
use Rattle.node.specs.Code.Laws.{names_rule_lem}
use Rattle.std.proofs.Common.{rules}
use Rattle.node.proofs.names_rule.Goals as goal

pub returns : goal.returns
returns c = search (names_rule_lem, rules)
