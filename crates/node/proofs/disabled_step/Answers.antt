-- Good fields name a run and a rule, whose before pair are states; the marks then are those of the definition.
use Rattle.node.specs.Code.Laws.{judge_passes, disabled_same, disabled_other}
use Rattle.std.proofs.Common.{true, rules}
use Rattle.node.proofs.disabled_step.Goals as goal

pub returns-then-same : goal.returns-then-same
returns-then-same c =
    disabled_same _ _ _ _ _ _ _ c.names_rule.ensures _ _ c.rule_p-p.ensures.is c.rule_q-q.ensures.is _ _ (search rules)
    c.single.ensures c.mark_at_most_one-one.ensures (judge_passes _ _ true c.judge.ensures _ c.in_ok-judge.was _)

pub returns : goal.returns
returns c =
    disabled_other _ _ _ _ _ _ _ c.names_rule.ensures _ _ c.rule_p-p.ensures.is c.rule_q-q.ensures.is _ _ _ _ (search rules)
    c.single-2.ensures c.single-3.ensures c.mark_absent-first.ensures c.mark_absent-second.ensures
    (judge_passes _ _ true c.judge.ensures _ c.in_ok-judge.was _)
