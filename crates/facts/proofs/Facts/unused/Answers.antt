-- Each word is that of the run; where there is no such run no rule is unused.
use Rattle.std.proofs.Common.{rules}
use Rattle.facts.specs.Code.Laws.{run_words_at}
use Rattle.facts.proofs.Facts.unused.Goals as goal

pub returns : goal.returns
returns c =
    run_words_at _ _ _ _ _ _ _ _ _ _ (search rules) c.word_of.ensures (search rules) c.word_of-2.ensures (search rules)
    c.word_of-3.ensures (search rules) c.word_of-4.ensures (search rules)
