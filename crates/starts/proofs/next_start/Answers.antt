-- `starts::next_start` meets its contract: agents are passed on, or there is no giver.
use Rattle.starts.specs.Code.Laws.{nexts}
use Rattle.std.proofs.Common.{rules}
use Rattle.starts.proofs.next_start.Goals as goal

pub overflow_sub-last : goal.overflow_sub-last
overflow_sub-last c = search (nexts, rules)

pub returns-then-end-eq0 : goal.returns-then-end-eq0
returns-then-end-eq0 c = search (nexts, rules)

pub next_input-to-requires : goal.next_input-to-requires
next_input-to-requires c = search (nexts, rules)

pub pass_on-requires : goal.pass_on-requires
pass_on-requires c = search (nexts, rules)

pub returns : goal.returns
returns c = search (nexts, rules)
