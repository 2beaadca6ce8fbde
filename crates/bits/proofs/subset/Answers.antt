-- `a & b` has the members of both, so it is a where each member of a is one of b.
use Rattle.bits.specs.Code.Laws.{subset_is}
use Rattle.bits.proofs.subset.Goals as goal

pub returns : goal.returns
returns c = subset_is 64 c.args.a c.args.b c.ranges.a.fits
