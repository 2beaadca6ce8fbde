-- What the functions on starts answer and ask for, beside theory's own definitions.
use Rattle.std.specs.Prelude.{◌≡◌, List, ℕ, ◌+◌, ◌-◌, ◌≤◌, ◌<◌, length, set}
use Rattle.theory.specs.Bool.{bit}
use Rattle.theory.specs.Below.{sum_below}
use Rattle.theory.specs.Protocol.{count, size}
use Rattle.format.specs.Format.{is_input, fixed_of}
use Rattle.format.specs.declared.Sizes.{Sizes}
pub mod Laws

-- How many of the first n states are inputs.
unfoldable pub inputs_below : Sizes → List ℕ → ℕ → ℕ
inputs_below z states n = sum_below n (λ s. bit (is_input z states s))

-- Every state has its fixed agents at least, and there are at most a million agents.
pub record AtLeastFixed (z : Sizes) (states c : List ℕ) : Type 0 where
  pub sized : length c ≡ z.states
  pub small : size c ≤ 1000000
  pub fixed : (s : ℕ) → s < z.states → fixed_of z states s ≤ count c s

-- The state `from`, before the last input, has an agent to give, and the last input at least its f fixed ones.
pub record Passable (c : List ℕ) (from to last f : ℕ) : Type 0 where
  pub before : from < last
  pub last_inside : last < length c
  pub to_inside : to < length c
  pub has_one : 1 ≤ count c from
  pub has_fixed : f ≤ count c last
  pub small : count c last ≤ 1000000

-- One agent of `from`, and all but f of the last input, go to the state `to`, which has g agents besides these.
unfoldable pub passed_on : List ℕ → ℕ → ℕ → ℕ → ℕ → ℕ → List ℕ
passed_on c from to last f g = set (set (set c last f) from (count c from - 1)) to (g + (count c last - f) + 1)
