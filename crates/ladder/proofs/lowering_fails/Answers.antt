-- `ladder::lowering_fails` meets its contract: by what the readers and pair_weight ensure.
use Rattle.ladder.specs.Code.Laws.{lowers_by}
use Rattle.std.proofs.Common.{rules}
use Rattle.ladder.proofs.lowering_fails.Goals as goal

pub returns : goal.returns
returns c = search (lowers_by, rules)
