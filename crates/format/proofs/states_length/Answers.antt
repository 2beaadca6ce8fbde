-- A width of at most 3 and a 16-bit number of states have a small product.
use Rattle.std.proofs.Common.{rules}
use Rattle.format.specs.Code.Laws.{states_small, states_long}
use Rattle.format.proofs.states_length.Goals as goal

pub overflow_mul-result : goal.overflow_mul-result
overflow_mul-result c = search (states_small, rules)

pub returns : goal.returns
returns c = search (states_long, rules)
