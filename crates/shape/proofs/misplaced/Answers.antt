-- `shape::misplaced` meets its contract: an offset before the start is no end; past it, what lies between is the size.
use Rattle.std.proofs.Common.{rules}
use Rattle.shape.proofs.ShapeLaws.{before_start, past_start}
use Rattle.shape.proofs.misplaced.Goals as goal

pub returns-then-at-start : goal.returns-then-at-start
returns-then-at-start c = search (before_start, rules)

pub returns : goal.returns
returns c = search (past_start, rules)
