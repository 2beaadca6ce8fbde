-- `machine::is_standstill_in` meets its contract: no rule is chosen just where none is enabled.
use Rattle.std.specs.Prelude.{Err}
use Rattle.std.proofs.Common.{rules, refl}
use Rattle.format.specs.Format.{protocol_in}
use Rattle.shape.proofs.SoundLaws.{docket_sound}
use Rattle.machine.specs.Calls.{terminal_answer}
use Rattle.machine.specs.Code.Laws.{counts_refused, counts_passed, terminal_in}
use Rattle.machine.proofs.is_standstill_in.Goals as goal

pub returns-in_err-counts_fault : goal.returns-in_err-counts_fault
unfolding terminal_answer
returns-in_err-counts_fault c =
    let d = c.args.docket in
    let P = protocol_in d.bytes.now d.header in
    counts_refused P _ _ c.counts_fault.ensures Err _ _ _ c.in_err-counts_fault.was (search rules)

pub returns : goal.returns
unfolding terminal_answer
returns c =
    let d = c.args.docket in
    let P = protocol_in d.bytes.now d.header in
    counts_passed P _ _ c.counts_fault.ensures _ _ _ c.in_ok-counts_fault.was
    (terminal_in d.bytes.now d.header _ _ c.states_section-states.ensures c.rules_section-rules.ensures _ (docket_sound d) _ _ _
    c.choose.ensures (search rules) refl)
