-- A record is as many bytes on as the width says.
use Rattle.std.proofs.Common.{rules}
use Rattle.format.specs.Code.Laws.{states_small}
use Rattle.format.proofs.state_flags.Goals as goal

pub overflow_mul-state_width : goal.overflow_mul-state_width
overflow_mul-state_width c = search (states_small, rules)

pub returns : goal.returns
returns c = record { is = cc; small = search rules }
