-- The count of the zeros below the lowest set digit is the number of that digit.
use Rattle.bits.specs.Code.Laws.{lowest_is}
use Rattle.bits.proofs.lowest.Goals as goal

pub returns : goal.returns
returns c = lowest_is 64 c.args.w
