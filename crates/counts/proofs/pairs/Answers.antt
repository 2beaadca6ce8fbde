-- `counts::pairs` meets its contract: the pairs are those of the rule's before pair.
use Rattle.std.proofs.Common.{rules}
use Rattle.counts.specs.Code.Laws.{pairs_rule}
use Rattle.counts.proofs.pairs.Goals as goal

pub returns : goal.returns
returns c = search (pairs_rule, rules)
