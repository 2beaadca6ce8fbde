-- `writer::write_tests` meets its contract: each `?` follows the judgement; counts within their limits were not cut.
use Rattle.std.proofs.Common.{rules}
use Rattle.theory.proofs.Judge.Laws.{test_refuses, test_passes}
use Rattle.refusals.specs.Refusal.{refusal}
use Rattle.writer.specs.Code.{parts_tested}
use Rattle.writer.proofs.CodeLaws.{at_length, at_count, counts-within, room_then, room_else, room_by_total, only_last}
use Rattle.writer.proofs.write_tests.Goals as goal

pub returns-in_err-at : goal.returns-in_err-at
unfolding parts_tested
returns-in_err-at c =
    test_refuses refusal _ _ _ _ _ _ c.at.ensures (search (at_length, rules)) _ c.in_err-at.was (search rules)

pub returns-in_err-at-2 : goal.returns-in_err-at-2
unfolding parts_tested
returns-in_err-at-2 c =
    test_passes refusal _ _ _ _ _ _ c.at.ensures (search (at_length, rules)) c.in_ok-at.was
    (test_refuses refusal _ _ _ _ _ _ c.at-2.ensures (search (at_count, rules)) _ c.in_err-at-2.was (search rules))

pub returns-in_err-record_tests : goal.returns-in_err-record_tests
unfolding parts_tested
returns-in_err-record_tests c =
    test_passes refusal _ _ _ _ _ _ c.at.ensures (search (at_length, rules)) c.in_ok-at.was
    (test_passes refusal _ _ _ _ _ _ c.at-2.ensures (search (at_count, rules)) c.in_ok-at-2.was
    (room_else _ _ _ c.requires.lengths _ c.requires.sizes _ _ c.at-2.ensures (search rules) c.in_ok-at-2.was _ _ _ (search rules)
    _ c.in_err-record_tests.was (search rules)))

pub header_for-requires : goal.header_for-requires
header_for-requires c = counts-within _ _ _ c.at-2.ensures (search rules) c.in_ok-at-2.was

pub returns : goal.returns
unfolding parts_tested
returns c =
    test_passes refusal _ _ _ _ _ _ c.at.ensures (search (at_length, rules)) c.in_ok-at.was
    (test_passes refusal _ _ _ _ _ _ c.at-2.ensures (search (at_count, rules)) c.in_ok-at-2.was
    (room_then _ _ _ c.requires.lengths _ c.requires.sizes _ _ c.at-2.ensures (search rules) c.in_ok-at-2.was _ _ _ (search rules)
    c.in_ok-record_tests.was
    (only_last _ _ _ _ c.when.ensures
    (room_by_total _ _ _ c.requires.lengths _ c.requires.sizes _ _ c.at-2.ensures (search rules) c.in_ok-at-2.was
    _ _ c.at.ensures (search rules) c.in_ok-at.was _ _ (search rules)))))
