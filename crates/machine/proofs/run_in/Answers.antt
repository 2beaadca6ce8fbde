-- `machine::run_in` meets its contract: the counts, then the run.
use Rattle.std.specs.Prelude.{Err}
use Rattle.std.proofs.Common.{rules, ◌≡◌}
use Rattle.format.specs.Format.{protocol_in, protocol_of}
use Rattle.shape.proofs.SoundLaws.{docket_sound}
use Rattle.machine.specs.Code.Laws.{replies_in, replies_not_admitted, counts-admitted, formed_in, partition_in}
use Rattle.machine.proofs.run_in.Goals as goal

pub returns-in_err-counts_fault : goal.returns-in_err-counts_fault
returns-in_err-counts_fault c =
    let d = c.args.docket in
    let P = protocol_in d.bytes.now d.header in
    let e : c.from_residual.result ≡ Err c.in_err-counts_fault.field-0.0 = search rules in
    rw e (replies_not_admitted P _ _ c.counts_fault.ensures _ _ _ c.in_err-counts_fault.was)

pub run_on-requires : goal.run_on-requires
run_on-requires c =
    let d = c.args.docket in
    let P = protocol_of d.header.sizes c.states_section-states.result.now c.rules_section-rules.result.now in
    record {
      well_formed = formed_in d.bytes.now d.header _ _ c.states_section-states.ensures c.rules_section-rules.ensures (docket_sound d);
      ordered_partition = partition_in d.bytes.now d.header _ _ c.states_section-states.ensures c.rules_section-rules.ensures (docket_sound d);
      counts_value = counts-admitted P _ _ c.counts_fault.ensures c.in_ok-counts_fault.was;
    }

pub returns : goal.returns
returns c =
    let d = c.args.docket in
    replies_in d.bytes.now d.header _ _ c.states_section-states.ensures c.rules_section-rules.ensures _ _ _ _ c.run_on.ensures
