-- `shape::weights_bad` meets its contract.
use Rattle.std.proofs.Common.{rules, refl}
use Rattle.theory.proofs.Below.Scan.{any_found}
use Rattle.shape.proofs.weights_bad.Goals as goal

pub returns : goal.returns
returns c = any_found _ _ _ _ _ _ c.any.ensures.ran refl (λ x b q k. search rules)
