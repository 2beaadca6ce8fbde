-- `counts::lose` meets its contract: past the end nothing changes.
use Rattle.std.proofs.Common.{rules}
use Rattle.theory.specs.Protocol.{lose}
use Rattle.counts.specs.Code.Laws.{lose_past}
use Rattle.counts.proofs.lose.Goals as goal

pub returns-then-s-counts : goal.returns-then-s-counts
unfolding lose
returns-then-s-counts c = search rules

pub returns-else-s-counts : goal.returns-else-s-counts
returns-else-s-counts c = search (lose_past, rules)
