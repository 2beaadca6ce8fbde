-- Each turn of the loop is a case of the walk: what is left to walk comes to what the whole walk comes to. The depth left
-- is the measure, of the loop and of the calls.
use Rattle.std.proofs.Common.{◌≡◌, ◌≤◌}
use Rattle.theory.specs.Tree.{tree_at}
use Rattle.format.specs.Format.{protocol_of, tree_of}
use Rattle.facts.specs.Code.{facts_of}
use Rattle.node.specs.Code.{assumption_of}
use Rattle.tree.proofs.+descend.Given as goal

abbrev pub decreases-descend : goal.decreases-descend
decreases-descend l = l.depth

abbrev pub invariant-loop-left : goal.invariant-loop-left
invariant-loop-left l =
    let P = protocol_of l.z l.states l.rules in
    let H = assumption_of P l.z l.numbers l.leaves l.aim in
    (l.left ≤ l.depth) × (tree_at P H (tree_of l.z l.nodes) l.left (facts_of l.facts) l.i ≡ tree_at P H (tree_of l.z l.nodes) l.depth (facts_of l.fn.given) l.start)

abbrev pub decreases-loop-left : goal.decreases-loop-left
decreases-loop-left l = l.left
