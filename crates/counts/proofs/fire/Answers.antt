-- `counts::fire` meets its contract: the before pair is taken, the after pair put; the size keeps each count small.
use Rattle.std.proofs.Common.{rules}
use Rattle.counts.specs.Code.Laws.{most_taken, fire-pairs}
use Rattle.counts.proofs.fire.Goals as goal

pub put-requires : goal.put-requires
put-requires c = search (most_taken, rules)

pub returns : goal.returns
returns c = search (fire-pairs, rules)
