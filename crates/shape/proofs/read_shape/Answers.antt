-- `shape::read_shape` meets its contract: by what the two functions ensure.
use Rattle.std.proofs.Common.{rules}
use Rattle.shape.specs.Shape.{shape_of}
use Rattle.shape.proofs.SoundLaws.{shape_at}
use Rattle.shape.proofs.read_shape.Goals as goal

pub returns-in_err-header : goal.returns-in_err-header
unfolding shape_of
returns-in_err-header c = record { shape = search rules; bytes = search rules }

pub invariant_of-result : goal.invariant_of-result
invariant_of-result c = record { sound = shape_at _ _ _ (rw (← c.read_header.ensures) c.header_shape.ensures) c.in_ok-header.was }

pub returns : goal.returns
unfolding shape_of
returns c = record { shape = search rules; bytes = search rules }
