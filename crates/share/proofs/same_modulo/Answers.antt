-- Numbers are the same modulo m just where m divides how far they are apart, as it does where they are equal.
use Rattle.std.proofs.Common.{◌∙◌}
use borrow.Author.Tests.{eq-eqb}
use Rattle.share.specs.Code.Laws.{same_equal, same_is}
use Rattle.share.proofs.same_modulo.Goals as goal

pub returns-then-apart-eq0 : goal.returns-then-apart-eq0
returns-then-apart-eq0 c = eq-eqb _ 0 c.if-apart-eq0.true ∙ same_equal _ _ _ _ c.distance-apart.ensures c.if-apart-eq0.true

pub returns-else-apart-eq0 : goal.returns-else-apart-eq0
returns-else-apart-eq0 c = same_is _ _ _ _ _ c.distance-apart.ensures c.is_multiple_of.ensures
