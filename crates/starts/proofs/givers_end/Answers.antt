-- `starts::givers_end` meets its contract: no state from s on, and below `last`, has more than its fixed agents.
use Rattle.starts.specs.Code.Laws.{going-back}
use Rattle.std.proofs.Common.{rules}
use Rattle.starts.proofs.givers_end.Goals as goal

pub returns-then-has_spare : goal.returns-then-has_spare
returns-then-has_spare c = search (going-back, rules)

pub loop-s-preserved : goal.loop-s-preserved
loop-s-preserved c = search (going-back, rules)

pub returns : goal.returns
returns c = search (going-back, rules)
