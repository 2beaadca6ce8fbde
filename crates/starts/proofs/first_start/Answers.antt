-- `starts::first_start` meets its contract: the fixed agents are put, and the others into the first input.
use Rattle.starts.specs.Code.Laws.{first-inside, first-written}
use Rattle.std.proofs.Common.{rules}
use Rattle.starts.proofs.first_start.Goals as goal

pub bounds-counts-first : goal.bounds-counts-first
bounds-counts-first c = search (first-inside, rules)

pub returns : goal.returns
returns c = search (first-written, rules)
