-- `shape::like_earlier` meets its contract: a rule that is not marked is like no earlier one.
use Rattle.std.specs.Prelude.{◌≡◌, ℕ}
use Rattle.std.specs.declared.ops.Range.{Range}
use Rattle.std.proofs.Common.{ap, rules}
use Rattle.theory.proofs.Below.Scan.{any_found}
use Rattle.shape.specs.Code.{alike}
use Rattle.shape.proofs.MarkLaws.{not_searched, like_any}
use Rattle.shape.proofs.like_earlier.Goals as goal

pub returns-then-not-marked : goal.returns-then-not-marked
returns-then-not-marked c = search (not_searched, rules)

-- The numbers below m are those below n.
below_same : (m n : ℕ) → m ≡ n → ◌≡◌ {A = Range ℕ} (record { start = 0; end = m }) (record { start = 0; end = n })
below_same m n e = ap (λ (k : ℕ). record { start = 0; end = k }) e

pub returns : goal.returns
returns c =
    like_any _ _ _ _ _ _ (search rules) (search rules)
    (any_found _ (alike c.args.rules.now c.args.whole c.read_rule-later.result) _ _ _ _ c.any.ensures.ran (search (below_same, rules))
    (λ x b q k. search rules))
