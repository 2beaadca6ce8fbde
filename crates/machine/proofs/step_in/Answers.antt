-- `machine::step_in` meets its contract: each return is one case of the reply.
use Rattle.std.specs.Prelude.{Err}
use Rattle.std.proofs.Common.{rules, ◌≡◌, true, false}
use Rattle.format.specs.Format.{protocol_in, protocol_of}
use Rattle.machine.specs.Code.Laws.{replies_in, replies_not_admitted, counts-admitted, counts_small, step_no_such, step_disabled, step_fired, rule_known}
use Rattle.machine.proofs.step_in.Goals as goal

pub returns-in_err-counts_fault : goal.returns-in_err-counts_fault
returns-in_err-counts_fault c =
    let d = c.args.docket in
    let P = protocol_in d.bytes.now d.header in
    let e : c.from_residual.result ≡ Err c.in_err-counts_fault.field-0.0 = search rules in
    rw e (replies_not_admitted P _ _ c.counts_fault.ensures _ _ _ c.in_err-counts_fault.was)

pub returns-in_err-rule : goal.returns-in_err-rule
returns-in_err-rule c =
    let d = c.args.docket in
    let P = protocol_in d.bytes.now d.header in
    let e : c.from_residual-in_err-rule.result ≡ Err c.in_err-rule.field-0.0 = search rules in
    let on = counts-admitted P _ _ c.counts_fault.ensures c.in_ok-counts_fault.was in
    rw e (step_no_such P _ _ _ on _ c.rule_in.ensures _ c.in_err-rule.was)

pub returns-then-not-enabled : goal.returns-then-not-enabled
returns-then-not-enabled c =
    let d = c.args.docket in
    let P = protocol_of d.header.sizes c.states_section-states.result.now c.rules_section-rules.result.now in
    let on = counts-admitted P _ _ c.counts_fault.ensures c.in_ok-counts_fault.was in
    let known = rule_known _ _ _ c.rule_in.ensures _ c.in_ok-rule.was in
    let off : c.enabled.result ≡ false = search rules in
    rw c.refuse.ensures
    (replies_in d.bytes.now d.header _ _ c.states_section-states.ensures c.rules_section-rules.ensures _ _ _ _
    (step_disabled P _ _ _ on _ _ known.1 known.0 c.enabled.ensures off))

pub fire-requires : goal.fire-requires
fire-requires c =
    let d = c.args.docket in
    let P = protocol_in d.bytes.now d.header in
    counts_small P _ _ c.counts_fault.ensures c.in_ok-counts_fault.was

pub returns : goal.returns
returns c =
    let d = c.args.docket in
    let P = protocol_of d.header.sizes c.states_section-states.result.now c.rules_section-rules.result.now in
    let on = counts-admitted P _ _ c.counts_fault.ensures c.in_ok-counts_fault.was in
    let known = rule_known _ _ _ c.rule_in.ensures _ c.in_ok-rule.was in
    let can : c.enabled.result ≡ true = search rules in
    replies_in d.bytes.now d.header _ _ c.states_section-states.ensures c.rules_section-rules.ensures _ _ _ _
    (step_fired P _ _ _ on _ _ known.1 known.0 c.enabled.ensures _ can c.fire.ensures)
