-- `counts::put` meets its contract: the two gains in order, of counts that are small.
use Rattle.std.proofs.Common.{rules}
use Rattle.counts.specs.Code.Laws.{most_more, most_put}
use Rattle.counts.proofs.put.Goals as goal

pub gain-requires : goal.gain-requires
gain-requires c = search (most_more, rules)

pub gain-requires-2 : goal.gain-requires-2
gain-requires-2 c = search (most_put, rules)
