-- Of the i rules from 64 word on, those that take from the set and those that put into it are gathered.
use Rattle.std.proofs.Common.{◌<◌, arith, rules}
use Rattle.node.specs.Code.Laws.{rule_states, flows, flow_more, flow-whole}
use Rattle.node.proofs.word_flow.Goals as goal

pub loop-i-init : goal.loop-i-init
loop-i-init c = search (flows, rules)

pub meets-takes-requires : goal.meets-takes-requires
meets-takes-requires c = let l : c.from-at.result < c.args.z.rules = omega arith in search (rule_states, rules)

pub loop-i-preserved : goal.loop-i-preserved
loop-i-preserved c =
    let taking = rw c.from-at.ensures at c.meets-takes.ensures in
    let putting = rw c.from-at.ensures at c.meets-puts.ensures in
    flow_more _ _ _ _ _ _ _ _ _ _ c.loop-i.invariant (omega arith) taking putting
    (rw c.from.ensures at c.with_if-taking.ensures) (rw c.from-in-loop-i.ensures at c.with_if-putting.ensures)

pub returns : goal.returns
returns c = flow-whole _ _ _ _ _ _ c.loop-i.invariant (omega arith)
