-- `writer::header_bytes` meets its contract: the bytes are those of the definition.
use Rattle.std.proofs.Common.{refl, rules}
use Rattle.writer.specs.Write.{header_bytes}
use Rattle.writer.proofs.CodeLaws.{numbers_of, bytes_more}
use Rattle.writer.proofs.header_bytes.Goals as goal

pub loop-i-preserved : goal.loop-i-preserved
loop-i-preserved c = bytes_more _ (numbers_of c.args.h) _ _ _ _ c.loop-i.invariant c.loop-i-test.true refl (search rules) (search rules)

pub returns : goal.returns
unfolding header_bytes
returns c = search rules
