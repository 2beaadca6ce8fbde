-- `shape::layer_used` meets its contract: the set tells, or the search.
use Rattle.std.proofs.Common.{rules, refl}
use Rattle.theory.proofs.Below.Scan.{any_found}
use Rattle.shape.proofs.MarkLaws.{used_is}
use Rattle.shape.specs.Shape.{in_layer}
use Rattle.shape.proofs.layer_used.Goals as goal

pub returns-then-layer-lt64 : goal.returns-then-layer-lt64
returns-then-layer-lt64 c = search (used_is, rules)

pub returns : goal.returns
returns c = any_found _ (in_layer c.args.rules.now c.args.l) _ _ _ _ c.any.ensures.ran refl (λ x b q k. search rules)
