-- `shape::offset_fault` meets its contract: it finds the first of the six that is true.
use Rattle.std.proofs.Common.{rules, refl}
use Rattle.theory.proofs.Below.Scan.{found_where}
use Rattle.shape.specs.Shape.{nth, offset_faults}
use Rattle.shape.proofs.offset_fault.Goals as goal

pub returns : goal.returns
returns c = found_where _ (nth (offset_faults c.args.h)) _ _ _ _ c.find.ensures.ran refl (λ x b q k. search rules)
