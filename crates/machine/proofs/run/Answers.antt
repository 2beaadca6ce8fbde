-- `machine::run` meets its contract: a refused shape is passed back.
use Rattle.std.proofs.Common.{rules}
use Rattle.shape.proofs.ShapeLaws.{passed_back}
use Rattle.machine.specs.Code.Laws.{replies_sound, replies_refused}
use Rattle.machine.proofs.run.Goals as goal

pub returns : goal.returns
returns c = replies_sound _ _ _ _ _ c.read_shape-read.ensures.shape c.in-Ok.docket _ c.in-Ok.is (search rules) c.run_in.ensures

pub returns-in_default : goal.returns-in_default
returns-in_default c = replies_refused _ _ _ _ _ c.read_shape-read.ensures.shape _ (passed_back _ _ _ c.in_default.is c.refusal_of.ensures) (search rules)
