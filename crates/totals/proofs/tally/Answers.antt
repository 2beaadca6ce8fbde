-- `totals::tally` meets its contract: a refusal of the check is passed back.
use Rattle.totals.proofs.TotalsLaws.{docket_sheet, sheet_refused}
use Rattle.totals.proofs.tally.Goals as goal

pub returns-in-Ok : goal.returns-in-Ok
returns-in-Ok c = docket_sheet c.in-Ok.docket _ c.in-Ok.ensures.docket.0 _ _ c.in-Ok.ensures.check c.tally_in.ensures

pub returns-in-Err : goal.returns-in-Err
returns-in-Err c = sheet_refused _ _ _ _ c.in-Err.ensures.check c.refused_sheet.ensures
