-- `starts::put_fixed` meets its contract: the states below s hold their fixed agents.
use Rattle.std.proofs.Common.{rules}
use Rattle.starts.specs.Code.Laws.{filling}
use Rattle.starts.proofs.put_fixed.Goals as goal

pub loop-s-preserved : goal.loop-s-preserved
loop-s-preserved c = search (filling, rules)

pub returns : goal.returns
returns c = search (filling, rules)
