-- `starts::put_fixed` meets its contract: the states below s hold their fixed agents.
use Rattle.std.proofs.Common.{◌≡◌, length}
use Rattle.format.specs.Format.{fixed_of}
use Rattle.theory.proofs.Below.Laws.{Filled}
use Rattle.starts.proofs.put_fixed.Given as goal

abbrev pub invariant-loop-s : goal.invariant-loop-s
invariant-loop-s l = (length l.counts ≡ l.fn.z.states) × Filled (fixed_of l.fn.z l.states) l.s l.counts
