-- Of the i rules from 64 word on, those that take from the set and those that put into it are gathered.
use Rattle.theory.specs.Bool.{member}
use Rattle.format.specs.Format.{protocol_of}
use Rattle.node.specs.Code.Laws.{FlowBelow}
use Rattle.node.proofs.word_flow.Given as goal

abbrev pub invariant-loop-i : goal.invariant-loop-i
invariant-loop-i l = FlowBelow (protocol_of l.fn.z l.states l.rules) (member l.set) l.word l.i l.taking l.putting
