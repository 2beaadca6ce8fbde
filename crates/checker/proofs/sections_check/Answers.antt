-- `checker::sections_check` meets its contract: each `?` follows the judgement.
use Rattle.std.proofs.Common.{rules}
use Rattle.theory.proofs.Judge.Laws.{test_refuses, test_passes, judge_done}
use Rattle.refusals.specs.Refusal.{refusal}
use Rattle.checker.specs.Check.{sections_check}
use Rattle.checker.proofs.sections_check.Goals as goal

pub returns-in_err-at : goal.returns-in_err-at
unfolding sections_check
returns-in_err-at c =
    test_refuses refusal _ _ _ _ _ _ c.at.ensures (search rules) _ c.in_err-at.was (search rules)

pub returns-in_err-at-2 : goal.returns-in_err-at-2
unfolding sections_check
returns-in_err-at-2 c =
    test_passes refusal _ _ _ _ _ _ c.at.ensures (search rules) c.in_ok-at.was
    (test_refuses refusal _ _ _ _ _ _ c.at-2.ensures (search rules) _ c.in_err-at-2.was (search rules))

pub returns-in_err-at-3 : goal.returns-in_err-at-3
unfolding sections_check
returns-in_err-at-3 c =
    test_passes refusal _ _ _ _ _ _ c.at.ensures (search rules) c.in_ok-at.was
    (test_passes refusal _ _ _ _ _ _ c.at-2.ensures (search rules) c.in_ok-at-2.was
    (test_refuses refusal _ _ _ _ _ _ c.at-3.ensures (search rules) _ c.in_err-at-3.was (search rules)))

pub returns : goal.returns
unfolding sections_check
returns c =
    test_passes refusal _ _ _ _ _ _ c.at.ensures (search rules) c.in_ok-at.was
    (test_passes refusal _ _ _ _ _ _ c.at-2.ensures (search rules) c.in_ok-at-2.was
    (test_passes refusal _ _ _ _ _ _ c.at-3.ensures (search rules) c.in_ok-at-3.was
    (judge_done _ _ _ c.tree_check.ensures)))
