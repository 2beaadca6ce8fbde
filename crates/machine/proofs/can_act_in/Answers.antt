-- `machine::can_act_in` meets its contract: the counts, then the rule number.
use Rattle.std.specs.Prelude.{Err}
use Rattle.std.proofs.Common.{rules, refl}
use Rattle.format.specs.Format.{protocol_in}
use Rattle.machine.specs.Calls.{pairs_answer}
use Rattle.machine.specs.Code.Laws.{counts_refused, counts_passed, pairs-known, number_unknown}
use Rattle.machine.proofs.can_act_in.Goals as goal

pub returns-in_err-counts_fault : goal.returns-in_err-counts_fault
unfolding pairs_answer
returns-in_err-counts_fault c =
    let d = c.args.docket in
    let P = protocol_in d.bytes.now d.header in
    counts_refused P _ _ c.counts_fault.ensures Err _ _ _ c.in_err-counts_fault.was (search rules)

pub returns-in_err-rule : goal.returns-in_err-rule
unfolding pairs_answer
returns-in_err-rule c =
    let d = c.args.docket in
    let P = protocol_in d.bytes.now d.header in
    counts_passed P _ _ c.counts_fault.ensures _ _ _ c.in_ok-counts_fault.was
    (number_unknown _ _ _ c.rule_in.ensures _ _ _ c.in_err-rule.was (search rules))

pub returns : goal.returns
unfolding pairs_answer
returns c =
    let d = c.args.docket in
    let P = protocol_in d.bytes.now d.header in
    counts_passed P _ _ c.counts_fault.ensures _ _ _ c.in_ok-counts_fault.was
    (pairs-known d.bytes.now d.header _ _ c.states_section-states.ensures c.rules_section-rules.ensures _ _ _ _ _ _ c.rule_in.ensures
    c.in_ok-rule.was c.pairs.ensures refl)
