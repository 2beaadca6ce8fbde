-- `shape::count_fault` meets its contract: it finds the first of the five that is true.
use Rattle.std.proofs.Common.{rules, refl}
use Rattle.theory.proofs.Below.Scan.{found_where}
use Rattle.shape.specs.Shape.{nth, count_faults}
use Rattle.shape.proofs.count_fault.Goals as goal

pub returns : goal.returns
returns c = found_where _ (nth (count_faults c.args.z)) _ _ _ _ c.find.ensures.ran refl (λ x b q k. search rules)
