-- The search tries each state.
use Rattle.std.specs.Prelude.{refl}
use Rattle.std.proofs.Common.{rules}
use Rattle.theory.proofs.Below.Scan.{found_where}
use Rattle.sheetshape.proofs.number_fault.Goals as goal

pub returns : goal.returns
returns c = found_where _ _ _ _ _ _ c.find.ensures.ran refl (λ x b q k. search rules)
