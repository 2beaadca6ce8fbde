-- The claim of a sheet in natural numbers. That it is document 02's in signed numbers is proved (Theorems, sheet_is).
use Rattle.std.specs.Prelude.{Bool, List, ℕ, ◌+◌, leb}
use Rattle.theory.specs.Weigh.{weigh}
use Rattle.theory.specs.Sheet.{Sheet, Threshold, at_least}

-- Whether configuration c reaches the threshold.
unfoldable pub is_reached : Threshold → List ℕ → Bool
is_reached B c = leb (weigh (λ _. 32768) c + B.plus) (weigh B.numbers c + B.minus)

-- The claim: what every terminal configuration reached from the start c shows. It is 1 if the weighed sum of c, fixed agents
-- included, is at least the limit, and 0 otherwise.
unfoldable pub claimed : Sheet → List ℕ → Bool
claimed Z c = is_reached (at_least Z) c
