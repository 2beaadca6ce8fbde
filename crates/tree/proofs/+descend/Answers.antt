-- Each turn of the loop is a case of the walk: what is left to walk comes to what the whole walk comes to.
use Rattle.std.proofs.Common.{◌≡◌, Ok, Err, ap, rules}
use Rattle.node.specs.declared.Children.TheVariants.{None, One, Two}
use Rattle.tree.specs.Code.{walked_of}
use Rattle.tree.specs.Code.Laws.{steps, step_refused, step_closed, step_child, step_stopped, step_second}
use Rattle.tree.proofs.+descend.Goals as goal

pub returns-then-z-i : goal.returns-then-z-i
returns-then-z-i t c = search (steps, rules)

pub returns-in-Err : goal.returns-in-Err
returns-in-Err t c =
    step_refused _ _ _ _ _ _ _ _ _ _ _ c.loop-left-test.true c.if-z-i.false c.node_step.ensures _ c.loop-left.invariant.1
    _ _ c.in-Err.is (search rules)

pub returns-in-Ok-None : goal.returns-in-Ok-None
returns-in-Ok-None t c =
    let e : c.node_step.result ≡ Ok None = search rules in
    step_closed _ _ _ _ _ _ _ _ _ _ _ c.loop-left-test.true c.if-z-i.false c.node_step.ensures _ c.loop-left.invariant.1 e

pub loop-left-preserved-in-Ok-One : goal.loop-left-preserved-in-Ok-One
loop-left-preserved-in-Ok-One t c =
    let e : c.node_step.result ≡ Ok (One c.in-Ok-One.child) = search rules in (
      search rules,
      step_child _ _ _ _ _ _ _ _ _ _ _ c.loop-left-test.true c.if-z-i.false c.node_step.ensures _ c.loop-left.invariant.1 _ e,
    )

pub returns-in_err-i-in-Ok-Two : goal.returns-in_err-i-in-Ok-Two
returns-in_err-i-in-Ok-Two t c =
    let e : c.node_step.result ≡ Ok (Two c.in-Ok-Two.first c.in-Ok-Two.second) = search rules in
    let r : c.from_residual.result ≡ Err c.in_err-i-in-Ok-Two.field-0.0 = search rules in
    step_stopped _ _ _ _ _ _ _ _ _ _ _ c.loop-left-test.true c.if-z-i.false c.node_step.ensures _ c.loop-left.invariant.1 _ _ _
    e c.descend.ensures _ _ c.in_err-i-in-Ok-Two.was (ap walked_of r)

pub loop-left-preserved : goal.loop-left-preserved
loop-left-preserved t c =
    let e : c.node_step.result ≡ Ok (Two c.in-Ok-Two.first c.in-Ok-Two.second) = search rules in (
      search rules,
      step_second _ _ _ _ _ _ _ _ _ _ _ c.loop-left-test.true c.if-z-i.false c.node_step.ensures _ c.loop-left.invariant.1 _ _ _
          e c.descend.ensures _ c.in_ok-i-in-Ok-Two.was,
    )

pub returns : goal.returns
returns t c = search (steps, rules)
