-- `!b` has just the numbers below 64 that b has not.
use Rattle.bits.specs.Code.Laws.{without_is}
use Rattle.bits.proofs.without.Goals as goal

pub returns : goal.returns
returns c = without_is c.args.a c.args.b c.ranges.a.fits c.ranges.b.fits
