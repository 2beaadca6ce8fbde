-- `ladder::rule_fits` meets its contract: each return is one case of the test.
use Rattle.std.proofs.Common.{rules}
use Rattle.ladder.specs.Code.Laws.{fits_not_lower, fits-first_missing, fits-second_missing, fits-second, fits_not_first}
use Rattle.ladder.proofs.rule_fits.Goals as goal

pub returns-then-layer-other : goal.returns-then-layer-other
returns-then-layer-other c = search (fits_not_lower, rules)

pub returns-then-not-has_below : goal.returns-then-not-has_below
returns-then-not-has_below c = search (fits-first_missing, rules)

pub returns-then-not-has_below-2 : goal.returns-then-not-has_below-2
returns-then-not-has_below-2 c = search (fits-second_missing, rules)

pub returns-then-covers : goal.returns-then-covers
returns-then-covers c = search (fits-second, rules)

pub returns-else-covers : goal.returns-else-covers
returns-else-covers c = search (fits_not_first, rules)
