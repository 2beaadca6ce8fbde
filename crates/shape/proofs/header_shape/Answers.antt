-- `shape::header_shape` meets its contract: each `?` follows the judgement.
use Rattle.std.proofs.Common.{rules, refl}
use Rattle.theory.proofs.Judge.Laws.{test_refuses, test_passes, only_refuses, only_passes}
use Rattle.refusals.specs.Refusal.{refusal}
use Rattle.shape.specs.Shape.{header_shape}
use Rattle.shape.proofs.ShapeLaws.{sections_refuse, sections_pass}
use Rattle.shape.proofs.header_shape.Goals as goal

pub returns-in_err-when : goal.returns-in_err-when
unfolding header_shape
returns-in_err-when c =
    only_refuses refusal _ _ _ _ _ _ _ c.when.ensures (search rules) _ c.in_err-when.was (search rules)

pub returns-in_err-when-2 : goal.returns-in_err-when-2
unfolding header_shape
returns-in_err-when-2 c =
    only_passes refusal _ _ _ _ _ _ _ c.when.ensures (search rules) c.in_ok-when.was
    (only_refuses refusal _ _ _ _ _ _ _ c.when-2.ensures (search rules) _ c.in_err-when-2.was (search rules))

pub returns-in_err-at : goal.returns-in_err-at
unfolding header_shape
returns-in_err-at c =
    only_passes refusal _ _ _ _ _ _ _ c.when.ensures (search rules) c.in_ok-when.was
    (only_passes refusal _ _ _ _ _ _ _ c.when-2.ensures (search rules) c.in_ok-when-2.was
    (test_refuses refusal _ _ _ _ _ _ c.at.ensures (search rules) _ c.in_err-at.was (search rules)))

pub returns-in_err-at-2 : goal.returns-in_err-at-2
unfolding header_shape
returns-in_err-at-2 c =
    only_passes refusal _ _ _ _ _ _ _ c.when.ensures (search rules) c.in_ok-when.was
    (only_passes refusal _ _ _ _ _ _ _ c.when-2.ensures (search rules) c.in_ok-when-2.was
    (test_passes refusal _ _ _ _ _ _ c.at.ensures (search rules) c.in_ok-at.was
    (test_refuses refusal _ _ _ _ _ _ c.at-2.ensures (search rules) _ c.in_err-at-2.was (search rules))))

pub returns-in_err-section_tests : goal.returns-in_err-section_tests
unfolding header_shape
returns-in_err-section_tests c =
    only_passes refusal _ _ _ _ _ _ _ c.when.ensures (search rules) c.in_ok-when.was
    (only_passes refusal _ _ _ _ _ _ _ c.when-2.ensures (search rules) c.in_ok-when-2.was
    (test_passes refusal _ _ _ _ _ _ c.at.ensures (search rules) c.in_ok-at.was
    (test_passes refusal _ _ _ _ _ _ c.at-2.ensures (search rules) c.in_ok-at-2.was
    (sections_refuse _ _ _ _ _ _ c.states_section.ensures c.rules_section.ensures c.layers_section.ensures c.section_tests.ensures _ _ c.in_err-section_tests.was (search rules)))))

pub returns : goal.returns
unfolding header_shape
returns c =
    only_passes refusal _ _ _ _ _ _ _ c.when.ensures (search rules) c.in_ok-when.was
    (only_passes refusal _ _ _ _ _ _ _ c.when-2.ensures (search rules) c.in_ok-when-2.was
    (test_passes refusal _ _ _ _ _ _ c.at.ensures (search rules) c.in_ok-at.was
    (test_passes refusal _ _ _ _ _ _ c.at-2.ensures (search rules) c.in_ok-at-2.was
    (sections_pass _ _ _ _ _ _ c.states_section.ensures c.rules_section.ensures c.layers_section.ensures c.section_tests.ensures _ c.in_ok-section_tests.was refl))))
