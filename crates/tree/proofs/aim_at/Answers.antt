-- The words are of the states of output 1 and of the others.
use Rattle.tree.specs.Code.Laws.{aims_at}
use Rattle.std.proofs.Common.{rules}
use Rattle.tree.proofs.aim_at.Goals as goal

pub returns : goal.returns
returns c = search (aims_at, rules)
