-- `counts::gain` meets its contract: past the end nothing changes.
use Rattle.std.proofs.Common.{refl, rules}
use Rattle.theory.specs.Protocol.{gain}
use Rattle.counts.specs.Code.Laws.{gain_past, most-fits}
use Rattle.counts.proofs.gain.Goals as goal

pub overflow_add-counts : goal.overflow_add-counts
overflow_add-counts c = search (most-fits, rules)

pub returns-then-s-counts : goal.returns-then-s-counts
unfolding gain
returns-then-s-counts c = refl

pub returns-else-s-counts : goal.returns-else-s-counts
returns-else-s-counts c = search (gain_past, rules)
