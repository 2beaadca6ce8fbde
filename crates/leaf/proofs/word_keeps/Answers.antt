-- Each rule from r on and below n is tried.
use Rattle.std.specs.Prelude.{refl}
use Rattle.std.proofs.Common.{rules}
use Rattle.leaf.specs.Code.Laws.{all_found}
use Rattle.leaf.proofs.word_keeps.Goals as goal

pub returns : goal.returns
returns c = all_found _ _ _ _ _ _ _ c.all.ensures.ran refl (λ x b q k. search rules)
