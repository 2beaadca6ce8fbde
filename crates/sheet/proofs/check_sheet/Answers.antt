-- `sheet::check_sheet` meets its contract: a refusal of the docket is passed back.
use Rattle.std.proofs.Common.{rules}
use Rattle.sheet.specs.Code.Laws.{sheet-follows, docket_refused, shape_refused}
use Rattle.sheet.proofs.check_sheet.Goals as goal

pub returns-in_err-certificate-in-Ok : goal.returns-in_err-certificate-in-Ok
returns-in_err-certificate-in-Ok c =
    docket_refused c.in-Ok.docket c.args.docket.now _ _ c.certificate.ensures (search rules) _ _ c.in_err-certificate-in-Ok.was (search rules)

pub returns-in_ok-certificate-in-Ok : goal.returns-in_ok-certificate-in-Ok
returns-in_ok-certificate-in-Ok c =
    sheet-follows c.in-Ok.docket c.args.docket.now _ _ c.certificate.ensures (search rules) _ _ c.in_ok-certificate-in-Ok.was c.sheet_check.ensures

pub returns-in-Err : goal.returns-in-Err
returns-in-Err c = shape_refused _ _ _ _ _ c.read_shape.ensures.shape c.in-Err.is (search rules)
