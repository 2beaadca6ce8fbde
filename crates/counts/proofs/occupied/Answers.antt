-- `counts::occupied` meets its contract: the test computes whether a state is one of them.
use Rattle.std.proofs.Common.{rules}
use Rattle.bits.specs.Code.Laws.{gathered}
use Rattle.counts.proofs.occupied.Goals as goal

pub returns : goal.returns
returns c = gathered _ _ _ _ c.among.ensures (search rules) (λ s t l g. search rules)
