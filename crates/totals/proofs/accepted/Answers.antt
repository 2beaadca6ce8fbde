-- `totals::accepted` meets its contract: tests 9 to 13 are passed, or the check refuses.
use Rattle.std.proofs.Common.{rules, ◌≡◌, Err}
use Rattle.checker.specs.Check.Laws.{refused_check}
use Rattle.totals.proofs.TotalsLaws.{runs_certified, check_accepts, check_refuses}
use Rattle.totals.proofs.accepted.Goals as goal

pub returns-in_err-certificate-in-Ok-clause-check : goal.returns-in_err-certificate-in-Ok-clause-check
returns-in_err-certificate-in-Ok-clause-check c =
    let e : c.from_residual.result ≡ Err c.in_err-certificate-in-Ok.field-0.0 = search rules in
    rw e (check_refuses c.in-Ok.docket c.args.docket.now (search rules) _ c.certificate.ensures _ c.in_err-certificate-in-Ok.was)

pub returns-in_ok-certificate-in-Ok-clause-check : goal.returns-in_ok-certificate-in-Ok-clause-check
returns-in_ok-certificate-in-Ok-clause-check c =
    check_accepts c.in-Ok.docket c.args.docket.now (search rules) _ c.certificate.ensures _ c.in_ok-certificate-in-Ok.was

pub returns-in_ok-certificate-in-Ok-clause-docket : goal.returns-in_ok-certificate-in-Ok-clause-docket
returns-in_ok-certificate-in-Ok-clause-docket c =
    let q : c.in-Ok.docket.bytes.now ≡ c.args.docket.now = search rules in
    (q, runs_certified c.in-Ok.docket c.args.docket.now q _ c.certificate.ensures _ c.in_ok-certificate-in-Ok.was)

pub returns-in-Err-clause-check : goal.returns-in-Err-clause-check
returns-in-Err-clause-check c = refused_check _ _ _ c.read_shape.ensures.shape c.in-Err.is
