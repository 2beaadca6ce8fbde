-- `machine::run_on` meets its contract: what is still to run from where it stands completes the run.
use Rattle.std.proofs.Common.{rules}
use Rattle.machine.specs.Code.Runs.{running, running_limit, running_rest, running_more}
use Rattle.machine.proofs.run_on.Goals as goal

pub loop-steps-init : goal.loop-steps-init
loop-steps-init c = search (running, rules)

pub returns-in_default : goal.returns-in_default
returns-in_default c = running_rest _ _ _ _ c.requires.ordered_partition _ _ c.loop-steps.invariant _ c.choose.ensures c.requires.counts_value (search rules)

pub loop-steps-preserved : goal.loop-steps-preserved
loop-steps-preserved c =
    running_more _ _ _ _ c.requires.ordered_partition _ _ c.loop-steps.invariant _ c.choose.ensures c.requires.well_formed
    c.loop-steps-test.true _ c.in-Some.is _ c.fire.ensures

pub returns : goal.returns
returns c =
    running_limit _ _ _ _ c.requires.ordered_partition _ _ c.loop-steps.invariant _ c.choose-2.ensures c.requires.counts_value
    c.loop-steps-test.false _ (search rules)
