-- `totals::tally_in` meets its contract: test 34, and then the totals.
use Rattle.std.proofs.Common.{◌∙◌, ap}
use Rattle.totals.specs.Totals.{refused_sheet}
use Rattle.totals.proofs.TotalsLaws.{code_refused, code_full, code-allowed}
use Rattle.totals.proofs.tally_in.Goals as goal

pub returns-then-outside : goal.returns-then-outside
returns-then-outside c =
    let d = c.args.docket in
    code_refused d.bytes.now d.header _ _ c.states_section.ensures _ c.input_count-inputs.ensures _ c.if-outside.true
    (c.refused_sheet.ensures ∙ ap refused_sheet c.refuse.ensures)

pub full_sheet-requires-clause-small : goal.full_sheet-requires-clause-small
full_sheet-requires-clause-small c =
    let d = c.args.docket in
    code-allowed d.bytes.now d.header _ _ c.states_section.ensures _ c.input_count-inputs.ensures c.if-outside.false

pub returns : goal.returns
returns c =
    let d = c.args.docket in
    code_full d.bytes.now d.header _ _ c.states_section.ensures _ c.input_count-inputs.ensures _ c.if-outside.false c.full_sheet.ensures
