-- `writer::not_whole_by_states` meets its contract: 4 s divides n just where 4 divides n and s divides n / 4.
use Rattle.std.proofs.Common.{rules}
use Rattle.writer.proofs.CodeLaws.{whole_split}
use Rattle.writer.proofs.not_whole_by_states.Goals as goal

pub returns : goal.returns
returns c = search (whole_split, rules)
