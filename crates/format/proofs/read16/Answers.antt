-- `format::read16` meets its contract: the number has the bytes from k on.
use Rattle.std.proofs.Common.{rules}
use Rattle.format.specs.Bytes.Laws.{number16}
use Rattle.format.proofs.read16.Goals as goal

pub returns : goal.returns
returns c = search (number16, rules)
