-- `totals::copy` meets its contract: the first i numbers are copied.
use Rattle.std.proofs.Common.{◌≡◌, length, get_or}
use Rattle.theory.proofs.Below.Laws.{Filled}
use Rattle.totals.proofs.copy.Given as goal

abbrev pub invariant-loop-i : goal.invariant-loop-i
invariant-loop-i l = (length l.to ≡ length l.from) × Filled (λ k. get_or l.from k 0) l.i l.to
