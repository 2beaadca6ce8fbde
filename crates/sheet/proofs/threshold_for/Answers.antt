-- Each return is a case of the definition.
use Rattle.std.proofs.Common.{rules}
use Rattle.sheet.specs.Code.Laws.{thresholds}
use Rattle.sheet.proofs.threshold_for.Goals as goal

pub returns-then-second : goal.returns-then-second
returns-then-second c = search (thresholds, rules)

pub returns : goal.returns
returns c = search (thresholds, rules)
