-- The count of the set digits is the sum of the digits.
use Rattle.theory.specs.Tree.{set_size}
use Rattle.bits.specs.Code.Laws.{size_is}
use Rattle.bits.proofs.size.Goals as goal

pub returns : goal.returns
unfolding set_size
returns c = size_is 64 c.args.w c.ranges.w.fits
