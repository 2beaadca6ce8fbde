-- `format::flag_set` meets its contract: the test computes whether a state has the flag.
use Rattle.std.proofs.Common.{rules}
use Rattle.bits.specs.Code.Laws.{gathered}
use Rattle.format.proofs.flag_set.Goals as goal

pub returns : goal.returns
returns c = gathered _ _ _ _ c.among.ensures (search rules) (λ s t l g. search rules)
