-- `format::read32` meets its contract: the number has the bytes from k on.
use Rattle.std.proofs.Common.{rules}
use Rattle.format.specs.Bytes.Laws.{number32}
use Rattle.format.proofs.read32.Goals as goal

pub returns : goal.returns
returns c = search (number32, rules)
