-- `counts::pair_enabled` meets its contract: a pair is enabled where an agent of its first state has a partner.
use Rattle.std.proofs.Common.{rules}
use Rattle.counts.specs.Code.Laws.{partner_some}
use Rattle.counts.proofs.pair_enabled.Goals as goal

pub returns : goal.returns
returns c = search (partner_some, rules)
