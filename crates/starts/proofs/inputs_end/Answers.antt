-- `starts::inputs_end` meets its contract: no state from s on is an input.
use Rattle.starts.specs.Code.Laws.{going-back}
use Rattle.std.proofs.Common.{rules}
use Rattle.starts.proofs.inputs_end.Goals as goal

pub returns-then-is_input : goal.returns-then-is_input
returns-then-is_input c = search (going-back, rules)

pub loop-s-preserved : goal.loop-s-preserved
loop-s-preserved c = search (going-back, rules)

pub returns : goal.returns
returns c = search (going-back, rules)
