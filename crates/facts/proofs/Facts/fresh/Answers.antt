-- Two words are filled: of the states those that are no inputs and have no fixed agents, and those that have some.
use Rattle.facts.specs.Code.Laws.{fresh_words}
use Rattle.std.proofs.Common.{rules}
use Rattle.facts.proofs.Facts.fresh.Goals as goal

pub returns : goal.returns
returns c = search (fresh_words, rules)
