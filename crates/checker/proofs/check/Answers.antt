-- `checker::check` meets its contract: a refused shape is passed back.
use Rattle.std.proofs.Common.{rules, sym}
use Rattle.checker.specs.Check.{check_of}
use Rattle.checker.specs.Check.Laws.{certified_check}
use Rattle.shape.proofs.ShapeLaws.{sound_else}
use Rattle.checker.proofs.check.Goals as goal

pub returns-in-Ok : goal.returns-in-Ok
returns-in-Ok c = sym (certified_check c.in-Ok.docket c.args.docket.now _ c.certificate.ensures (search rules))

pub returns-in-Err : goal.returns-in-Err
unfolding check_of
returns-in-Err c = search (sound_else, rules)
