-- Each return is a case of the definition.
use Rattle.std.proofs.Common.{rules}
use Rattle.share.specs.Code.Laws.{counting}
use Rattle.share.proofs.times.Goals as goal

pub returns-then-fixed-eq0 : goal.returns-then-fixed-eq0
returns-then-fixed-eq0 c = search (counting, rules)

pub returns-then-has : goal.returns-then-has
returns-then-has c = search (counting, rules)

pub returns-else-has : goal.returns-else-has
returns-else-has c = search (counting, rules)
