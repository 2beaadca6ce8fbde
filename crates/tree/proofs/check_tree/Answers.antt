-- The aim assumes the disagreement of two runs.
use Rattle.tree.specs.Code.Laws.{answer_disagrees}
use Rattle.std.proofs.Common.{rules}
use Rattle.tree.proofs.check_tree.Goals as goal

pub returns : goal.returns
returns c = search (answer_disagrees, rules)
