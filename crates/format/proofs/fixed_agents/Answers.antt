-- In version 2 the number behind the byte of bits.
use Rattle.std.proofs.Common.{sym}
use Rattle.format.specs.Code.Laws.{fixed_2, fixed_1}
use Rattle.format.proofs.fixed_agents.Goals as goal

pub returns-then-z-eq2 : goal.returns-then-z-eq2
returns-then-z-eq2 c = rw (fixed_2 c.args.z c.args.states.now c.args.s c.if-z-eq2.true, ← c.from.ensures) c.read16.ensures

pub returns : goal.returns
returns c = sym (fixed_1 c.args.z _ _ c.if-z-eq2.false)
