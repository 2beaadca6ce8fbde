-- The walk starts on the fresh facts; what is left is whether it ends behind the last node.
use Rattle.std.proofs.Common.{◌≡◌, Err, ap, rules}
use Rattle.tree.specs.Code.{walked_of}
use Rattle.tree.specs.Code.Laws.{answer_refused, answer_whole, answer_left}
use Rattle.tree.proofs.walk_tree.Goals as goal

pub returns-in_err-j : goal.returns-in_err-j
returns-in_err-j c =
    let e : c.from_residual.result ≡ Err c.in_err-j.field-0.0 = search rules in
    answer_refused _ _ _ _ _ c.root_facts-facts.ensures c.descend.ensures _ _ c.in_err-j.was (ap walked_of e)

pub returns-then-whole : goal.returns-then-whole
returns-then-whole c = answer_whole _ _ _ _ _ c.root_facts-facts.ensures c.descend.ensures _ c.in_ok-j.was (search rules)

pub returns-else-whole : goal.returns-else-whole
returns-else-whole c = answer_left _ _ _ _ _ c.root_facts-facts.ensures c.descend.ensures _ _ c.in_ok-j.was (search rules) (search rules)
