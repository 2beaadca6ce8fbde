-- Bit i is the lowest digit of the word shifted by i.
use Rattle.std.proofs.Common.{rules}
use Rattle.theory.specs.Bool.{member}
use Rattle.bits.proofs.has_below.Goals as goal

pub returns : goal.returns
unfolding member
returns c = search rules
