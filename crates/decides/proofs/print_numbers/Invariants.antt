-- `decides::print_numbers` meets its contract: the numbers of the states below s have been printed.
use Rattle.std.proofs.Common.{◌≡◌}
use Rattle.decides.proofs.print_numbers.Given as goal

abbrev pub invariant-loop-s : goal.invariant-loop-s
invariant-loop-s g l = l.printed ≡ l.s
