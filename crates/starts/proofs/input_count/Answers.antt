-- `starts::input_count` meets its contract: the inputs below s are counted.
use Rattle.std.proofs.Common.{rules}
use Rattle.starts.specs.Code.Laws.{counting}
use Rattle.starts.proofs.input_count.Goals as goal
use Rattle.starts.proofs.input_count.Goals.{then-is_input, else-is_input}

pub loop-s-init : goal.loop-s-init
loop-s-init c = search (counting, rules)

pub loop-s-preserved : goal.loop-s-preserved
loop-s-preserved c =
    elim c.if-is_input.branch [
      | then-is_input w ↦ rw w.n-is (search (counting, rules))
      | else-is_input w ↦ rw w.n-is (search (counting, rules))
    ]

pub returns : goal.returns
returns c = search (counting, rules)
