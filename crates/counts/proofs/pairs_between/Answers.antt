-- `counts::pairs_between` meets its contract: counts and partners are 32-bit numbers, so that nothing wraps.
use Rattle.std.proofs.Common.{rules}
use Rattle.format.specs.Bytes.Laws.{product_below}
use Rattle.counts.specs.Code.Laws.{pairs_same, pairs_apart}
use Rattle.counts.proofs.pairs_between.Goals as goal

pub overflow_mul-met : goal.overflow_mul-met
overflow_mul-met c = search (product_below 4294967296, rules)

pub returns-then-p-q : goal.returns-then-p-q
returns-then-p-q c = search (pairs_same, rules)

pub returns-else-p-q : goal.returns-else-p-q
returns-else-p-q c = search (pairs_apart, rules)
