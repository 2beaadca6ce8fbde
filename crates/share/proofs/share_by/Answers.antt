-- Each arm is a case of the definition.
use Rattle.std.proofs.Common.{rules}
use Rattle.share.specs.Code.Laws.{summing}
use Rattle.share.proofs.share_by.Goals as goal

pub returns-in-BySums : goal.returns-in-BySums
returns-in-BySums c = search (summing, rules)

pub returns-in-ByRemainders : goal.returns-in-ByRemainders
returns-in-ByRemainders c = search (summing, rules)
