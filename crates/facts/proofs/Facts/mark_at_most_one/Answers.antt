-- One sort of facts is extended, the others stay.
use Rattle.std.proofs.Common.{refl, rules}
use Rattle.facts.specs.Code.Laws.{end_marked_at, at_most_one_with}
use Rattle.facts.proofs.Facts.mark_at_most_one.Goals as goal

pub returns : goal.returns
returns c = at_most_one_with _ _ _ _ refl refl (end_marked_at _ _ _ _ _ c.mark-self.ensures (search rules)) refl
