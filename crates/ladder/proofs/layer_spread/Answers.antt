-- `ladder::layer_spread` meets its contract: `low` and `high` are the least and the greatest weight of the states below `s`.
use Rattle.std.proofs.Common.{rules}
use Rattle.ladder.specs.Code.Laws.{extremes, low_le_high, spread_is}
use Rattle.ladder.proofs.layer_spread.Goals as goal

pub loop-s-init : goal.loop-s-init
loop-s-init c = search (extremes, rules)

pub loop-s-preserved : goal.loop-s-preserved
loop-s-preserved c = search (extremes, rules)

pub overflow_sub-result : goal.overflow_sub-result
overflow_sub-result c = search (low_le_high, rules)

pub returns : goal.returns
returns c = search (spread_is, rules)
