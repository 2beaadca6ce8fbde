-- `ladder::states_of` meets its contract: the set has the four states and no other.
use Rattle.std.proofs.Common.{rules}
use Rattle.ladder.specs.Code.Laws.{states_are}
use Rattle.ladder.proofs.states_of.Goals as goal

pub returns : goal.returns
returns c = search (states_are, rules)
