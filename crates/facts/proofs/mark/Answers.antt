-- The word of the party, if it is below `i`, is joined with the set.
use Rattle.std.proofs.Common.{arith, rules}
use Rattle.facts.specs.Code.Laws.{marked_none, marked_more, marked_done}
use Rattle.facts.proofs.mark.Goals as goal

pub loop-i-init : goal.loop-i-init
loop-i-init g c = (search rules, marked_none _ _ _ _)

pub loop-i-preserved : goal.loop-i-preserved
loop-i-preserved g c = (search rules, marked_more _ _ _ _ _ _ _ (search rules) c.loop-i.invariant.1 c.union_if.ensures)

pub returns : goal.returns
returns g c = marked_done _ _ _ _ _ c.loop-i.i _ (omega arith) (omega arith) c.loop-i.invariant.1
