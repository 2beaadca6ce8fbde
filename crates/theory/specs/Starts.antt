-- The starts with n agents besides the fixed ones, in the order of document 02, Job 9.
use Rattle.std.specs.Prelude.{Bool, cond, List, [], ◌∷◌, ◌++◌, map, ℕ, zero, suc, ◌+◌, ◌-◌, get_or}
use Rattle.theory.specs.Bool.{bit}
use Rattle.theory.specs.Below.{sum_below}
use Rattle.theory.specs.Protocol.{Protocol}
pub mod Next

-- f n, f (n - 1), .., f 0, behind each other.
unfoldable pub each_down : {A : Type 0} → (ℕ → List A) → ℕ → List A
each_down f zero = f zero
each_down f (suc n) = f (suc n) ++ each_down f n

-- Every way to spread n agents over the inputs among m states, the fixed agents of every state on top. State 0 has k of the n
-- agents, and the states behind it have the others; k goes from n down to 0 where state 0 is an input, and is 0 where it is none.
unfoldable pub starts_over : (ℕ → Bool) → (ℕ → ℕ) → ℕ → ℕ → List (List ℕ)
starts_over input fixed zero zero = [] ∷ []
starts_over input fixed zero (suc n) = []
starts_over input fixed (suc m) n =
    each_down
    (λ k. map (λ c. (fixed 0 + k) ∷ c) (starts_over (λ s. input (suc s)) (λ s. fixed (suc s)) m (n - k)))
    (cond (input 0) n 0)

-- The number of ways to choose k of n things, by Pascal's rule.
unfoldable pub binomial : ℕ → ℕ → ℕ
binomial n zero = 1
binomial zero (suc k) = 0
binomial (suc n) (suc k) = binomial n k + binomial n (suc k)

module _ (P : Protocol) where
  -- How many states are inputs.
  unfoldable pub inputs_of : ℕ
  inputs_of = sum_below P.states (λ s. bit (P.input s))

  -- How many fixed agents there are.
  unfoldable pub fixed_total : ℕ
  fixed_total = sum_below P.states P.fixed

  -- The starts with n agents besides the fixed ones, by the first input's count, greatest first, then by the next.
  unfoldable pub starts : ℕ → List (List ℕ)
  starts n = starts_over P.input P.fixed P.states n

  -- Start k of them, from 0 on.
  abbrev pub start_at : ℕ → ℕ → List ℕ
  start_at n k = get_or (starts n) k []
