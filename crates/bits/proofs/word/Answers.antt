-- A word of the set; past the last one it is 0.
use Rattle.std.proofs.lemmas.Option.{unwrap_or-slice_get}
use Rattle.std.proofs.Common.{rules}
use Rattle.bits.specs.Code.Laws.{word_at}
use Rattle.bits.proofs.word.Goals as goal

pub returns : goal.returns
returns c = search (word_at, unwrap_or-slice_get, rules)
