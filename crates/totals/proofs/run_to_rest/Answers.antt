-- `totals::run_to_rest` meets its contract: the steps that are left of the rest bound fall.
use Rattle.std.proofs.Common.{arith, rules}
use Rattle.totals.proofs.CodeLaws.{turning_small, turning}
use Rattle.totals.proofs.run_to_rest.Goals as goal

pub loop-going-init : goal.loop-going-init
loop-going-init c = search (turning, rules)

pub overflow_add-total : goal.overflow_add-total
overflow_add-total c =
    omega (
      arith,
      turning_small _ _ c.requires.docket _ c.requires.counts _ _ _ c.loop-going.invariant _ _ _ c.run_in-ran.ensures _ c.steps_in-total.ensures,
    )

pub loop-going-smaller : goal.loop-going-smaller
loop-going-smaller c = search (turning, rules)

pub loop-going-preserved : goal.loop-going-preserved
loop-going-preserved c = search (turning, rules)

pub returns : goal.returns
returns c = search (turning, rules)
