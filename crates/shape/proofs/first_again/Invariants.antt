-- `shape::first_again` meets its contract: no rule below `i` is like an earlier one, and all of them are marked.
use Rattle.std.proofs.Common.{◌≡◌, length}
use Rattle.theory.specs.Below.{Clear}
use Rattle.shape.specs.Code.{again, mark_of}
use Rattle.shape.proofs.MarkLaws.{Marked}
use Rattle.shape.proofs.first_again.Given as goal

abbrev pub invariant-loop-i : goal.invariant-loop-i
invariant-loop-i l =
    (length l.marks ≡ 64) × Clear (again l.rules l.whole) l.i × Marked (mark_of l.rules l.whole) l.marks l.i
