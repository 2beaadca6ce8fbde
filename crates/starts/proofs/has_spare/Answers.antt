-- `starts::has_spare` meets its contract: its count is compared with its fixed agents.
use Rattle.std.proofs.Common.{rules}
use Rattle.starts.specs.Code.Laws.{spare_is}
use Rattle.starts.proofs.has_spare.Goals as goal

pub returns : goal.returns
returns c = search (spare_is, rules)
