-- `writer::length_fault` meets its contract: it finds the first of the five that is true.
use Rattle.std.proofs.Common.{refl, rules}
use Rattle.theory.proofs.Below.Scan.{found_where}
use Rattle.shape.specs.Shape.{nth}
use Rattle.writer.specs.Write.{length_faults}
use Rattle.writer.proofs.length_fault.Goals as goal

pub returns : goal.returns
returns c =
    found_where _ (nth (length_faults c.args.version c.args.n)) _ _ _ _ c.find.ensures.ran refl (λ x b q k. search rules)
