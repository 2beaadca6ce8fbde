-- The rules of the words before this one are unused or keep the weight.
use Rattle.std.proofs.Common.{rules}
use Rattle.leaf.specs.Code.Laws.{keeping}
use Rattle.leaf.proofs.rules_keep.Goals as goal

pub returns-then-not-word_keeps : goal.returns-then-not-word_keeps
returns-then-not-word_keeps c = search (keeping, rules)

pub loop-word-preserved : goal.loop-word-preserved
loop-word-preserved c = search (keeping, rules)

pub returns : goal.returns
returns c = search (keeping, rules)
