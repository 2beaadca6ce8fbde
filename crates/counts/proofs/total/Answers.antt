-- `counts::total` meets its contract: the sum of the counts is their size.
use Rattle.std.proofs.Common.{rules}
use Rattle.counts.specs.Code.Laws.{size_is}
use Rattle.counts.proofs.total.Goals as goal

pub returns : goal.returns
returns c = size_is c.args.counts.now _ (search rules)
