-- Tests, sums and extremes over the numbers below a bound.
use Rattle.std.specs.Prelude.{◌≡◌, Bool, true, false, ◌&&◌, ◌||◌, ℕ, zero, suc, ◌+◌, ◌<◌, min, max, eqb}
pub mod Ends

-- No number below i passes.
abbrev pub Clear : (ℕ → Bool) → ℕ → Type 0
Clear f i = (k : ℕ) → k < i → f k ≡ false

-- Whether every number below n passes.
unfoldable pub all_below : ℕ → (ℕ → Bool) → Bool
all_below zero f = true
all_below (suc n) f = f n && all_below n f

-- Whether some number below n passes.
unfoldable pub any_below : ℕ → (ℕ → Bool) → Bool
any_below zero f = false
any_below (suc n) f = f n || any_below n f

-- The lowest number below n that passes, or n.
unfoldable pub first_below : ℕ → (ℕ → Bool) → ℕ
first_below zero f = zero
first_below (suc n) f = elim (f zero) [ true ↦ zero | false ↦ suc (first_below n (λ k. f (suc k))) ]

-- The sum f 0 + .. + f (n - 1).
unfoldable pub sum_below : ℕ → (ℕ → ℕ) → ℕ
sum_below zero f = 0
sum_below (suc n) f = sum_below n f + f n

-- The least of f 0, .., f (n - 1); f 0 where n is 0.
unfoldable pub least : ℕ → (ℕ → ℕ) → ℕ
least zero f = f 0
least (suc n) f = min (least n f) (f n)

-- The greatest of f 0, .., f (n - 1); f 0 where n is 0.
unfoldable pub greatest : ℕ → (ℕ → ℕ) → ℕ
greatest zero f = f 0
greatest (suc n) f = max (greatest n f) (f n)

-- The first number below n at which f is greatest; 0 where n is 0.
unfoldable pub first_greatest : ℕ → (ℕ → ℕ) → ℕ
first_greatest n f = first_below n (λ k. eqb (f k) (greatest n f))
