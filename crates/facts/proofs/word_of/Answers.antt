-- No place below `i` is that of the party.
use Rattle.std.proofs.Common.{arith, rules}
use Rattle.std.proofs.Math.Logic.{by_cases}
use Rattle.std.proofs.Math.Decide.{dec_lt}
use Rattle.facts.specs.Code.Laws.{word_at, word_none}
use Rattle.facts.proofs.word_of.Goals as goal

pub returns-then-first-i : goal.returns-then-first-i
returns-then-first-i g c = word_at _ _ _ _ c.if-first-i.true

pub loop-i-preserved : goal.loop-i-preserved
loop-i-preserved g c =
    λ k l e. by_cases (dec_lt k c.loop-i.i) (λ h. c.loop-i.invariant k h e) (λ h. c.if-first-i.false (omega arith))

pub returns : goal.returns
returns g c = word_none _ g.row.N _ _ (search rules) (λ i l. c.loop-i.invariant i (omega arith))
