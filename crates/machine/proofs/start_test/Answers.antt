-- `machine::start_test` meets its contract: a refused shape is passed back.
use Rattle.std.proofs.Common.{rules}
use Rattle.shape.proofs.ShapeLaws.{sound_else}
use Rattle.format.specs.Format.{protocol_in}
use Rattle.machine.specs.Calls.{start_answer, start_of}
use Rattle.machine.specs.Code.Laws.{answers_sound}
use Rattle.machine.proofs.start_test.Goals as goal

pub returns : goal.returns
unfolding start_of
returns c = answers_sound c.args.docket.now (λ b h. start_answer (protocol_in b h) c.args.counts.now) _ _ c.read_shape-read.ensures.shape c.in-Ok.docket c.in-Ok.is (search rules) c.start_in.ensures

pub returns-in_default : goal.returns-in_default
unfolding start_of
returns-in_default c = search (sound_else, rules)
