-- `writer::record_tests` meets its contract: each `?` follows the judgement.
use Rattle.std.proofs.Common.{rules}
use Rattle.theory.proofs.Judge.Laws.{test_last}
use Rattle.refusals.specs.Refusal.{refusal}
use Rattle.writer.proofs.CodeLaws.{records_then, records_else}
use Rattle.writer.proofs.record_tests.Goals as goal

pub returns-in_err-section_tests : goal.returns-in_err-section_tests
returns-in_err-section_tests c = records_else _ _ _ _ _ _ _ (search rules) _ c.in_err-section_tests.was (search rules)

pub returns : goal.returns
returns c =
    records_then _ _ _ _ _ _ _ (search rules) c.in_ok-section_tests.was
    (test_last refusal _ _ _ c.at.ensures (search rules))
