-- `shape::first_again` meets its contract: no rule below `i` is like an earlier one, and all of them are marked.
use Rattle.std.proofs.Common.{rules}
use Rattle.theory.proofs.Below.Scan.{seek}
use Rattle.shape.proofs.MarkLaws.{marked_none, marked_more, mark_tells, length-kept}
use Rattle.shape.proofs.first_again.Goals as goal

pub loop-i-init : goal.loop-i-init
loop-i-init c = search (seek, marked_none, rules)

pub returns-then-like_earlier : goal.returns-then-like_earlier
returns-then-like_earlier c = search (seek, mark_tells, rules)

pub loop-i-preserved : goal.loop-i-preserved
loop-i-preserved c = (search (length-kept, rules), search (seek, mark_tells, rules), search (marked_more, rules))

pub returns : goal.returns
returns c = search (seek, rules)
