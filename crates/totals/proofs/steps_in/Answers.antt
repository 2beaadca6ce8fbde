-- `totals::steps_in` meets its contract, by the case of the run.
use Rattle.std.proofs.Common.{rules}
use Rattle.theory.specs.Machine.{meetings_of}
use Rattle.totals.proofs.steps_in.Goals as goal

pub returns-in-Ok : goal.returns-in-Ok
unfolding meetings_of
returns-in-Ok c = search rules

pub returns-in-Err : goal.returns-in-Err
unfolding meetings_of
returns-in-Err c = search rules
