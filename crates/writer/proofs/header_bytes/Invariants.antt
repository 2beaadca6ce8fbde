-- The first i numbers stand in the bytes, two bytes each.
use Rattle.std.proofs.Common.{◌≡◌, ◌*◌}
use Rattle.std.proofs.Math.Seq.{paste}
use Rattle.writer.proofs.CodeLaws.{bytes_of}
use Rattle.writer.proofs.header_bytes.Given as goal

abbrev pub invariant-loop-i : goal.invariant-loop-i
invariant-loop-i l = l.bytes ≡ paste l.initial.bytes 0 (bytes_of l.n-items) (2 * l.i)
