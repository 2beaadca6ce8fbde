-- Each end is searched.
use Rattle.std.specs.Prelude.{refl}
use Rattle.std.proofs.Common.{rules}
use Rattle.theory.proofs.Below.Scan.{any_found}
use Rattle.leaf.specs.Leaf.{bad_leaf}
use Rattle.leaf.specs.Leaf.Laws.{found_some}
use Rattle.leaf.proofs.leaf_bad.Goals as goal

pub returns : goal.returns
unfolding bad_leaf
returns c = any_found _ _ _ _ _ _ c.any.ensures.ran refl (λ x b q k. search (found_some, rules))
