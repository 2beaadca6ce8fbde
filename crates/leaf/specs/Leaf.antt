-- Test 11 of document 01 over the bytes of a docket.
use Rattle.std.specs.Prelude.{Bool, List, ℕ, ltb}
use Rattle.theory.specs.Below.{any_below}
use Rattle.theory.specs.Judge.{Test}
use Rattle.format.specs.Format.{end_weight}
use Rattle.format.specs.declared.Sizes.{Sizes}
pub mod Laws

-- Leaf l's weight of state s at end e + 1 is outside -10,000 to 10,000.
abbrev pub over_limit : Sizes → List ℕ → ℕ → ℕ → ℕ → Bool
over_limit z leaves l e s = ltb 20000 (end_weight z leaves l e s)

-- Test 11: some weight of leaf l, at one of the two ends, is outside -10,000 to 10,000.
unfoldable pub bad_leaf : Sizes → List ℕ → ℕ → Bool
bad_leaf z leaves l = any_below 2 (λ e. any_below z.states (over_limit z leaves l e))

-- Test 11, over the leaves.
abbrev pub leaf_test : Sizes → List ℕ → Test
leaf_test z leaves = record { number = 11; places = z.leaves; bad = bad_leaf z leaves }
