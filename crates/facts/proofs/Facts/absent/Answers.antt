-- The word of the party has its states.
use Rattle.facts.specs.Code.Laws.{set-word}
use Rattle.std.proofs.Common.{rules}
use Rattle.facts.proofs.Facts.absent.Goals as goal

pub returns : goal.returns
returns c = search (set-word, rules)
