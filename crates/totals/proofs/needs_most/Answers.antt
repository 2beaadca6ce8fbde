-- `totals::needs_most` meets its contract: two tests.
use Rattle.std.proofs.Common.{refl}
use Rattle.totals.specs.Code.{needs_most}
use Rattle.totals.proofs.needs_most.Goals as goal

pub returns : goal.returns
unfolding needs_most
returns c = refl
