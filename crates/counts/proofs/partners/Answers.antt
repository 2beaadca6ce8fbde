-- `counts::partners` meets its contract: the three cases of the definition.
use Rattle.std.proofs.Common.{rules}
use Rattle.counts.specs.Code.Laws.{no_partner, partners_same, partners_apart}
use Rattle.counts.proofs.partners.Goals as goal

pub returns-then-held-lt1 : goal.returns-then-held-lt1
returns-then-held-lt1 c = search (no_partner, rules)

pub returns-then-p-q : goal.returns-then-p-q
returns-then-p-q c = search (partners_same, rules)

pub returns : goal.returns
returns c = search (partners_apart, rules)
