-- `shape::rule_fault` meets its contract.
use Rattle.std.proofs.Common.{rules, refl}
use Rattle.theory.proofs.Below.Scan.{found_where}
use Rattle.shape.proofs.rule_fault.Goals as goal

pub returns : goal.returns
returns c = found_where _ _ _ _ _ _ c.find.ensures.ran refl (λ x b q k. search rules)
