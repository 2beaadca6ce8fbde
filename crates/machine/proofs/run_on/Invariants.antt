-- `machine::run_on` meets its contract: what is still to run from where it stands completes the run.
use Rattle.format.specs.Format.{protocol_of, layers_of}
use Rattle.machine.specs.Code.Runs.{Running}
use Rattle.machine.proofs.run_on.Given as goal

abbrev pub invariant-loop-steps : goal.invariant-loop-steps
invariant-loop-steps l = Running (protocol_of l.z l.states l.rules) (layers_of l.z l.rules) l.limit l.initial.counts l.steps l.counts
