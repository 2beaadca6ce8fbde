-- `machine::verdict_in` meets its contract: the occupied states are apart from those of output 1, or among them.
use Rattle.std.specs.Prelude.{Err}
use Rattle.std.proofs.Common.{rules, refl}
use Rattle.format.specs.Format.{protocol_in}
use Rattle.shape.proofs.SoundLaws.{docket_sound}
use Rattle.machine.specs.Calls.{verdict_answer}
use Rattle.machine.specs.Code.Laws.{counts_refused, counts_passed, verdict_0, verdict_1, verdict_mixed}
use Rattle.machine.proofs.verdict_in.Goals as goal

pub returns-in_err-counts_fault : goal.returns-in_err-counts_fault
unfolding verdict_answer
returns-in_err-counts_fault c =
    let d = c.args.docket in
    let P = protocol_in d.bytes.now d.header in
    counts_refused P _ _ c.counts_fault.ensures Err _ _ _ c.in_err-counts_fault.was (search rules)

pub returns-then-disjoint : goal.returns-then-disjoint
unfolding verdict_answer
returns-then-disjoint c =
    let d = c.args.docket in
    let P = protocol_in d.bytes.now d.header in
    counts_passed P _ _ c.counts_fault.ensures _ _ _ c.in_ok-counts_fault.was
    (verdict_0 d.bytes.now d.header _ _ (docket_sound d) c.states_section-states.ensures _ _ c.occupied-occupied.ensures c.flag_set-outputs.ensures
    _ _ c.disjoint.ensures (search rules) refl)

pub returns-then-subset : goal.returns-then-subset
unfolding verdict_answer
returns-then-subset c =
    let d = c.args.docket in
    let P = protocol_in d.bytes.now d.header in
    counts_passed P _ _ c.counts_fault.ensures _ _ _ c.in_ok-counts_fault.was
    (verdict_1 d.bytes.now d.header _ _ (docket_sound d) c.states_section-states.ensures _ _ c.occupied-occupied.ensures c.flag_set-outputs.ensures
    _ _ c.disjoint.ensures (search rules) _ c.subset.ensures (search rules) refl)

pub returns : goal.returns
unfolding verdict_answer
returns c =
    let d = c.args.docket in
    let P = protocol_in d.bytes.now d.header in
    counts_passed P _ _ c.counts_fault.ensures _ _ _ c.in_ok-counts_fault.was
    (verdict_mixed d.bytes.now d.header _ _ (docket_sound d) c.states_section-states.ensures _ _ c.occupied-occupied.ensures c.flag_set-outputs.ensures
    _ _ c.disjoint.ensures (search rules) _ c.subset.ensures (search rules) refl)
