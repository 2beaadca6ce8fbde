-- `format::read_header` meets its contract: the numbers lie within the first 24 bytes.
use Rattle.format.specs.Code.Laws.{header_in}
use Rattle.format.proofs.read_header.Goals as goal

pub returns : goal.returns
returns c = rw (← header_in c.args.b.now c.bytes-head.result c.bytes-head.ensures) cc
