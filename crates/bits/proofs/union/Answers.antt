-- The digits of `a | b` are the greater digits of a and b.
use Rattle.bits.specs.Code.Laws.{union_is}
use Rattle.bits.proofs.union.Goals as goal

pub returns : goal.returns
returns c = union_is c.args.a c.args.b
