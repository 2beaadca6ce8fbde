-- Each arm is a case of the definition.
use Rattle.threshold.specs.Code.Laws.{choosing}
use Rattle.std.proofs.Common.{rules}
use Rattle.threshold.proofs.leaf_holds.Goals as goal

pub returns-in-OfDocket : goal.returns-in-OfDocket
returns-in-OfDocket c = search (choosing, rules)

pub returns-in-OfSheet : goal.returns-in-OfSheet
returns-in-OfSheet c = search (choosing, rules)
