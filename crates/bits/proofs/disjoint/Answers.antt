-- `a & b` has the members of both, and only 0 has no member.
use Rattle.bits.specs.Code.Laws.{disjoint_is}
use Rattle.bits.proofs.disjoint.Goals as goal

pub returns : goal.returns
returns c = disjoint_is 64 c.args.a c.args.b c.ranges.a.fits
