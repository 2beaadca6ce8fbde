-- The widest set of the nodes below i is known.
use Rattle.std.proofs.Common.{◌≡◌}
use Rattle.theory.specs.Tree.{widest_below}
use Rattle.format.specs.Format.{tree_of}
use Rattle.tree.proofs.widest.Given as goal

abbrev pub invariant-loop-i : goal.invariant-loop-i
invariant-loop-i l = l.most ≡ widest_below (tree_of l.fn.z l.nodes) l.i
