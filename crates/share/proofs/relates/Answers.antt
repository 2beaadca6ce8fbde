-- Each arm is a case of the definition.
use Rattle.std.proofs.Common.{rules}
use Rattle.share.specs.Code.Laws.{relating}
use Rattle.share.proofs.relates.Goals as goal

pub returns-in-BySums : goal.returns-in-BySums
returns-in-BySums c = search (relating, rules)

pub returns-in-ByRemainders : goal.returns-in-ByRemainders
returns-in-ByRemainders c = search (relating, rules)
