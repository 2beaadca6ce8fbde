-- `format::read64` meets its contract: the number has the bytes from k on.
use Rattle.std.proofs.Common.{rules}
use Rattle.format.specs.Bytes.Laws.{number64}
use Rattle.format.proofs.read64.Goals as goal

pub returns : goal.returns
returns c = search (number64, rules)
