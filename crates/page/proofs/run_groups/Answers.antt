-- `page::run_groups` meets its contract: the parts of the groups that have been run hold what is made of them, the others are as
-- they were.
use Rattle.std.proofs.Common.{arith}
use Rattle.shape.proofs.SoundLaws.{docket_sound}
use Rattle.page.proofs.CodeLaws.{run_none, run_more}
use Rattle.page.proofs.run_groups.Goals as goal

pub nonzero_div-groups : goal.nonzero_div-groups
nonzero_div-groups c = omega (arith, (docket_sound c.args.docket).limits.states_least)

pub loop-g-init : goal.loop-g-init
loop-g-init c = run_none _ _ _ _ _

pub loop-g-preserved : goal.loop-g-preserved
loop-g-preserved c =
    run_more _ _ _ _ _ _ _ _ c.loop-g.invariant c.loop-g-test.true _ _ c.run_group.ensures.counts c.run_group.ensures.results
