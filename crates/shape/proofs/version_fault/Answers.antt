-- `shape::version_fault` meets its contract: it is the definition.
use Rattle.std.proofs.Common.{refl}
use Rattle.shape.proofs.version_fault.Goals as goal

pub returns : goal.returns
returns c = refl
