-- What a state record has in each version, and the header in its bytes. Assumes nothing.
use Rattle.std.specs.Prelude.{◌≡◌, List, ℕ, ◌+◌, ◌*◌, ◌≤◌, ◌<◌, eqb}
use Rattle.std.proofs.Common.{ap, mul-le-mul_right, arith, eq-eqb, ne_eqb}
use Rattle.theory.proofs.Bool.Laws.{by_test}
use Rattle.format.specs.Bytes.{le16}
use Rattle.format.specs.Code.{Value}
use Rattle.format.specs.Bytes.Laws.{Are, number_in}
use Rattle.format.specs.Format.{header_of, state_width, fixed_of}
use Rattle.format.specs.declared.Sizes.{Sizes}

module _ (v : ℕ) where
  pub width_some : (0 < state_width v) × (state_width v ≤ 3)
  width_some = by_test (eqb v 2) (λ e. rw e (omega arith)) (λ e. rw e (omega arith))

  -- A number of state records, from the width w of one.
  pub states_small : (w n : ℕ) → Value 4 (state_width v) w → n < 65536 → w * n < 262144
  states_small w n f l = let k : w ≤ 3 = omega (arith, f.small) in omega (arith, mul-le-mul_right n k)

  pub states_long : (w n : ℕ) → Value 4 (state_width v) w → n < 65536 → Value 262144 (state_width v * n) (w * n)
  states_long w n f l = record { is = ap (λ k. k * n) f.is; small = states_small w n f l }

module _ (z : Sizes) (states : List ℕ) (s : ℕ) where
  pub fixed_2 : z.version ≡ 2 → fixed_of z states s ≡ le16 states (3 * s + 1)
  fixed_2 e = rw (eq-eqb z.version 2 e)

  pub fixed_1 : (z.version ≡ 2 → ⊥) → fixed_of z states s ≡ 0
  fixed_1 n = rw (ne_eqb z.version 2 n)

-- The header lies within the first 24 bytes, v.
pub header_in : (b v : List ℕ) → Are b v 0 24 → header_of v ≡ header_of b
header_in b v h =
    let at = λ (i : ℕ) (l : i + 1 < 24). number_in b v 24 i h l in
    rw (
      at 0 (omega arith),
      at 2 (omega arith),
      at 4 (omega arith),
      at 6 (omega arith),
      at 8 (omega arith),
      at 10 (omega arith),
      at 12 (omega arith),
      at 14 (omega arith),
      at 16 (omega arith),
      at 18 (omega arith),
      at 20 (omega arith),
      at 22 (omega arith),
    )
