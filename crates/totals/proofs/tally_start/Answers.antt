-- `totals::tally_start` meets its contract: the start is copied, run and counted, and kept where it needs the greatest step total.
use Rattle.std.proofs.Common.{◌∙◌, rules}
use Rattle.totals.proofs.TallyLaws.{group_same, counted_is, first-new, first_old}
use Rattle.totals.proofs.tally_start.Goals as goal
use Rattle.totals.proofs.tally_start.Goals.{then-needs_most, else-needs_most}

pub run_to_rest-steps-requires : goal.run_to_rest-steps-requires
run_to_rest-steps-requires c = search (group_same, rules)

pub returns : goal.returns
returns c =
    let good = c.requires.docket in
    let group = c.requires.counts in
    let same = c.copy.ensures in
    let steps = c.run_to_rest-steps.ensures.steps in
    let needs-it = c.needs_most.ensures in
    record {
      totals =
          counted_is _ _ good _ _ group same _ steps _ _ _ _ c.run_to_rest-steps.ensures.counts c.verdict_in-verdict.ensures c.with_start.ensures;
      first =
          elim c.if-needs_most.branch [
            | then-needs_most w ↦ first-new _ _ good _ _ group same _ steps _ _ _ _ needs-it w.if-needs_most.true (w.first-is ∙ w.copy-then-needs_most.ensures)
            | else-needs_most w ↦ first_old _ _ good _ _ group same _ steps _ _ _ _ needs-it w.if-needs_most.false w.first-is
          ];
    }
