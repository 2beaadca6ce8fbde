-- `shape::section_tests` meets its contract: each `?` follows the judgement.
use Rattle.std.proofs.Common.{rules}
use Rattle.theory.proofs.Judge.Laws.{test_refuses, test_passes, test_last}
use Rattle.refusals.specs.Refusal.{refusal}
use Rattle.shape.specs.Code.{tested_of}
use Rattle.shape.proofs.section_tests.Goals as goal

pub returns-in_err-at : goal.returns-in_err-at
unfolding tested_of
returns-in_err-at c =
    test_refuses refusal _ _ _ _ _ _ c.at.ensures (search rules) _ c.in_err-at.was (search rules)

pub returns-in_err-at-2 : goal.returns-in_err-at-2
unfolding tested_of
returns-in_err-at-2 c =
    test_passes refusal _ _ _ _ _ _ c.at.ensures (search rules) c.in_ok-at.was
    (test_refuses refusal _ _ _ _ _ _ c.at-2.ensures (search rules) _ c.in_err-at-2.was (search rules))

pub returns-in_err-at-3 : goal.returns-in_err-at-3
unfolding tested_of
returns-in_err-at-3 c =
    test_passes refusal _ _ _ _ _ _ c.at.ensures (search rules) c.in_ok-at.was
    (test_passes refusal _ _ _ _ _ _ c.at-2.ensures (search rules) c.in_ok-at-2.was
    (test_refuses refusal _ _ _ _ _ _ c.at-3.ensures (search rules) _ c.in_err-at-3.was (search rules)))

pub returns-in_err-at-4 : goal.returns-in_err-at-4
unfolding tested_of
returns-in_err-at-4 c =
    test_passes refusal _ _ _ _ _ _ c.at.ensures (search rules) c.in_ok-at.was
    (test_passes refusal _ _ _ _ _ _ c.at-2.ensures (search rules) c.in_ok-at-2.was
    (test_passes refusal _ _ _ _ _ _ c.at-3.ensures (search rules) c.in_ok-at-3.was
    (test_refuses refusal _ _ _ _ _ _ c.at-4.ensures (search rules) _ c.in_err-at-4.was (search rules))))

pub returns : goal.returns
unfolding tested_of
returns c =
    test_passes refusal _ _ _ _ _ _ c.at.ensures (search rules) c.in_ok-at.was
    (test_passes refusal _ _ _ _ _ _ c.at-2.ensures (search rules) c.in_ok-at-2.was
    (test_passes refusal _ _ _ _ _ _ c.at-3.ensures (search rules) c.in_ok-at-3.was
    (test_passes refusal _ _ _ _ _ _ c.at-4.ensures (search rules) c.in_ok-at-4.was
    (test_last refusal _ _ _ c.at-5.ensures (search rules)))))
