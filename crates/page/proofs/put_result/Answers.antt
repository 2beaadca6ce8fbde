-- `page::put_result` meets its contract: two numbers are written, by the case of the run.
use Rattle.std.proofs.Common.{rules, refl}
use Rattle.page.proofs.CodeLaws.{put_ran, put_refused}
use Rattle.page.proofs.put_result.Goals as goal

pub returns-in-Ok : goal.returns-in-Ok
returns-in-Ok c = put_ran _ _ _ _ c.requires refl refl _ _ _ c.in-Ok.is c.doubled.ensures

pub returns-in-Err : goal.returns-in-Err
returns-in-Err c = put_refused _ _ _ _ c.requires refl refl _ _ _ c.in-Err.is (search rules)
