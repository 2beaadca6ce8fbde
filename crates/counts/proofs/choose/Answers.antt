-- `counts::choose` meets its contract: the best of the rules below `r` is known.
use Rattle.std.proofs.Common.{rules}
use Rattle.counts.specs.Code.Laws.{choosing}
use Rattle.counts.proofs.choose.Goals as goal
use Rattle.counts.proofs.choose.Goals.{then-l-low+then-pair_enabled+else-l-eq0, then-l-low+else-pair_enabled, else-l-low}

pub loop-r-init : goal.loop-r-init
loop-r-init c = search (choosing, rules)

pub returns-then-l-eq0 : goal.returns-then-l-eq0
returns-then-l-eq0 c = search (choosing, rules)

pub loop-r-preserved : goal.loop-r-preserved
loop-r-preserved c =
    elim c.if-l-low.branch [
      | then-l-low+then-pair_enabled+else-l-eq0 w ↦ rw (w.best-is, w.low-is) (search (choosing, rules))
      | then-l-low+else-pair_enabled w ↦ rw (w.best-is, w.low-is) (search (choosing, rules))
      | else-l-low w ↦ rw (w.best-is, w.low-is) (search (choosing, rules))
    ]

pub returns : goal.returns
returns c = search (choosing, rules)
