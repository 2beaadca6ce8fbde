-- Leaf weights as they stand in the file. Assumes nothing.
use Rattle.std.specs.Prelude.{◌≡◌, refl, ◌↔◌, ℕ, ◌-◌, ◌≤◌, ◌<◌, pos, ◌-ℤ◌, ◌≤ℤ◌}
use Rattle.std.proofs.Common.{arith, lt-ltb, le-ltb}
use Rattle.std.proofs.Math.Logic.{by_cases}
use Rattle.std.proofs.Math.Decide.{dec_lt}
use Rattle.theory.specs.Leaf.{signed}
use Rattle.theory.proofs.Leaf.Signed.{plus, minus, parts_same, sub_parts, le_parts, weight-parts}
use Rattle.format.specs.Format.{biased}
use Rattle.claims.specs.OfDocket.{number16}

-- The number that 16 bits stand for is the difference of two numbers, one of which is 0.
low_parts : (v : ℕ) → v < 32768 → (plus (number16 v) ≡ v) × (minus (number16 v) ≡ 0)
low_parts v l = rw (lt-ltb v 32768 l) (refl, refl)

high_parts : (v : ℕ) → 32768 ≤ v → (plus (number16 v) ≡ v - 65536) × (minus (number16 v) ≡ 65536 - v)
high_parts v l = rw (le-ltb v 32768 l) (sub_parts v 65536)

pub weight_is : (v : ℕ) → v < 65536 → biased v ≤ 20000 → signed (biased v) ≡ number16 v
weight_is v small within =
    let w = weight-parts (biased v) in
    by_cases (dec_lt v 32768)
    (λ l. let n = low_parts v l in parts_same _ _ (omega (arith, w.0, n.0)) (omega (arith, w.1, n.1)))
    (λ g. let n = high_parts v (omega arith) in parts_same _ _ (omega (arith, w.0, n.0)) (omega (arith, w.1, n.1)))

pub weight_within : (v : ℕ) → v < 65536 → (biased v ≤ 20000) ↔ (((pos 0 -ℤ pos 10000) ≤ℤ number16 v) × (number16 v ≤ℤ pos 10000))
weight_within v small =
    let lo = le_parts (pos 0 -ℤ pos 10000) (number16 v) in
    let hi = le_parts (number16 v) (pos 10000) in
    let least = sub_parts 0 10000 in
    by_cases (dec_lt v 32768)
    (λ l.
    let n = low_parts v l in (
      λ h. (lo.1 (omega (arith, n.0, n.1, least.0, least.1)), hi.1 (omega (arith, n.0, n.1))),
      λ h. omega (arith, n.0, n.1, hi.0 h.1),
    ))
    (λ g.
    let n = high_parts v (omega arith) in (
      λ h. (lo.1 (omega (arith, n.0, n.1, least.0, least.1)), hi.1 (omega (arith, n.0, n.1))),
      λ h. omega (arith, n.0, n.1, least.0, least.1, lo.0 h.0),
    ))
