-- `machine::is_standstill` meets its contract: a refused shape is passed back.
use Rattle.std.proofs.Common.{rules}
use Rattle.shape.proofs.ShapeLaws.{sound_else}
use Rattle.format.specs.Format.{protocol_in}
use Rattle.machine.specs.Calls.{terminal_answer, terminal_of}
use Rattle.machine.specs.Code.Laws.{answers_sound}
use Rattle.machine.proofs.is_standstill.Goals as goal

pub returns : goal.returns
unfolding terminal_of
returns c = answers_sound c.args.docket.now (λ b h. terminal_answer (protocol_in b h) c.args.counts.now) _ _ c.read_shape-read.ensures.shape c.in-Ok.docket c.in-Ok.is (search rules) c.is_standstill_in.ensures

pub returns-in_default : goal.returns-in_default
unfolding terminal_of
returns-in_default c = search (sound_else, rules)
