-- `machine::start_in` meets its contract: the counts, then the first state that is against the start rule.
use Rattle.std.specs.Prelude.{Err}
use Rattle.std.proofs.Common.{rules, refl}
use Rattle.format.specs.Format.{protocol_in}
use Rattle.shape.proofs.SoundLaws.{docket_sound}
use Rattle.machine.specs.Calls.{start_answer}
use Rattle.machine.specs.Code.Laws.{counts_refused, counts_passed, start_unfit, start_fit}
use Rattle.machine.proofs.start_in.Goals as goal

pub returns-in_err-counts_fault : goal.returns-in_err-counts_fault
unfolding start_answer
returns-in_err-counts_fault c =
    let d = c.args.docket in
    let P = protocol_in d.bytes.now d.header in
    counts_refused P _ _ c.counts_fault.ensures Err _ _ _ c.in_err-counts_fault.was (search rules)

pub returns-then-place-ge64 : goal.returns-then-place-ge64
unfolding start_answer
returns-then-place-ge64 c =
    let d = c.args.docket in
    let P = protocol_in d.bytes.now d.header in
    counts_passed P _ _ c.counts_fault.ensures _ _ _ c.in_ok-counts_fault.was
    (start_fit d.bytes.now d.header _ _ (docket_sound d) c.states_section-states.ensures _ _ c.unfit_states.ensures c.lowest-place.ensures
    _ c.if-place-ge64.true refl)

pub returns : goal.returns
unfolding start_answer
returns c =
    let d = c.args.docket in
    let P = protocol_in d.bytes.now d.header in
    counts_passed P _ _ c.counts_fault.ensures _ _ _ c.in_ok-counts_fault.was
    (start_unfit d.bytes.now d.header _ _ (docket_sound d) c.states_section-states.ensures _ _ c.unfit_states.ensures c.lowest-place.ensures
    _ c.if-place-ge64.false (search rules))
