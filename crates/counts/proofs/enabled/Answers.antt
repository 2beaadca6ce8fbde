-- `counts::enabled` meets its contract: a rule is enabled where the number of its pairs is not 0.
use Rattle.std.proofs.Common.{rules}
use Rattle.counts.specs.Code.Laws.{enabled-some}
use Rattle.counts.proofs.enabled.Goals as goal

pub returns : goal.returns
returns c = search (enabled-some, rules)
