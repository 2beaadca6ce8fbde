-- Each arm is the node of its kind.
use Rattle.std.proofs.Common.{◌≡◌, Err, ap, rules}
use Rattle.node.specs.Code.{turn_of_step}
use Rattle.node.specs.Code.Laws.{kind_unknown, kind_leaf, kind_output, kind_contradiction, kind_disabled, kind_split, kind_set, kind_remainder}
use Rattle.node.proofs.node_step.Goals as goal

pub returns-in_err-n : goal.returns-in_err-n
returns-in_err-n c =
    let e : c.from_residual.result ≡ Err c.in_err-n.field-0.0 = search rules in
    kind_unknown _ _ _ _ _ _ _ _ _ _ c.node_at.ensures _ _ c.in_err-n.was (ap turn_of_step e)

pub returns-in-Leaf : goal.returns-in-Leaf
returns-in-Leaf c = kind_leaf _ _ _ _ _ _ _ _ _ _ c.node_at.ensures _ _ c.in_ok-n.was c.in-Leaf.is c.leaf_step.ensures

pub returns-in-Output : goal.returns-in-Output
returns-in-Output c = kind_output _ _ _ _ _ _ _ _ _ _ c.node_at.ensures _ _ c.in_ok-n.was c.in-Output.is c.output_step.ensures

pub returns-in-Contradiction : goal.returns-in-Contradiction
returns-in-Contradiction c = kind_contradiction _ _ _ _ _ _ _ _ _ _ c.node_at.ensures _ _ c.in_ok-n.was c.in-Contradiction.is c.contradiction_step.ensures

pub returns-in-Disabled : goal.returns-in-Disabled
returns-in-Disabled c = kind_disabled _ _ _ _ _ _ _ _ _ _ c.node_at.ensures _ _ c.in_ok-n.was c.in-Disabled.is c.disabled_step.ensures

pub returns-in-Split : goal.returns-in-Split
returns-in-Split c = kind_split _ _ _ _ _ _ _ _ _ _ c.node_at.ensures _ _ c.in_ok-n.was c.in-Split.is c.split_step.ensures

pub returns-in-Trap : goal.returns-in-Trap
returns-in-Trap c =
    kind_set _ _ _ _ _ _ _ _ _ _ c.node_at.ensures _ _ c.in_ok-n.was _ c.in-Trap.is (λ e. rw e at c.eq-reversed.ensures)
    (λ e. rw e at c.eq-reversed.ensures) c.set_step.ensures

pub returns-in-Remainder : goal.returns-in-Remainder
returns-in-Remainder c = kind_remainder _ _ _ _ _ _ _ _ _ _ c.node_at.ensures _ _ c.in_ok-n.was c.in-Remainder.is c.remainder_step.ensures
