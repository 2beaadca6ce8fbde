-- `shape::layer_bad` meets its contract.
use Rattle.std.proofs.Common.{rules}
use Rattle.shape.proofs.ShapeLaws.{layer_found}
use Rattle.shape.proofs.layer_bad.Goals as goal

pub returns : goal.returns
returns c = search (layer_found, rules)
