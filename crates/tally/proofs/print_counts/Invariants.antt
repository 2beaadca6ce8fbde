-- `tally::print_counts` meets its contract: as many counts have been printed as the loop went past.
use Rattle.std.proofs.Common.{◌≡◌}
use Rattle.tally.proofs.print_counts.Given as goal

abbrev pub invariant-loop-count : goal.invariant-loop-count
invariant-loop-count g l = l.printed ≡ l.count-index
