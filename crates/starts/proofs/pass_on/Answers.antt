-- `starts::pass_on` meets its contract: three counts are written.
use Rattle.starts.specs.Code.Laws.{from_inside, passed_on_lem}
use Rattle.std.proofs.Common.{rules}
use Rattle.starts.proofs.pass_on.Goals as goal

pub bounds-counts-from-2 : goal.bounds-counts-from-2
bounds-counts-from-2 c = search (from_inside, rules)

pub returns : goal.returns
returns c = search (passed_on_lem, rules)
