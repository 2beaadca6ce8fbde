-- An input, or not.
use Rattle.std.proofs.Common.{rules}
use Rattle.counts.specs.Code.Laws.{unfits}
use Rattle.counts.proofs.is_unfit.Goals as goal

pub returns-then-is_input : goal.returns-then-is_input
returns-then-is_input c = search (unfits, rules)

pub returns : goal.returns
returns c = search (unfits, rules)
