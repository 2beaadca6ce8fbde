-- `checker::tree_check` meets its contract: the answer of the walk, and the summary.
use Rattle.std.proofs.Common.{rules, refl}
use Rattle.format.specs.Format.{sections}
use Rattle.checker.specs.Check.Laws.{walk_refused, walk_accepted, summary_is}
use Rattle.checker.proofs.tree_check.Goals as goal

pub returns-in_err-check_tree : goal.returns-in_err-check_tree
returns-in_err-check_tree c = search (walk_refused, rules)

pub returns : goal.returns
returns c =
    let x = sections c.args.states.now c.args.rules.now c.args.layers.now c.args.nodes.now c.args.leaves.now in
    walk_accepted _ _ _ c.check_tree.ensures _ _ c.in_ok-check_tree.was
    (summary_is c.args.z x _ _ _ c.spread_sum-spreads.ensures c.widest-widest.ensures refl)
