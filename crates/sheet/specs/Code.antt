-- What the functions of a sheet answer, beside its check.
use Rattle.std.specs.Prelude.{Bool, true, false, cond, List, ℕ}
use Rattle.theory.specs.Protocol.{Protocol}
use Rattle.theory.specs.Tree.{Walked}
use Rattle.theory.specs.Sheet.{Sheet, first_walk, second_walk}
use Rattle.format.specs.Format.{tree_of}
use Rattle.format.specs.declared.Sizes.{Sizes}
use Rattle.threshold.specs.declared.Threshold.{Threshold}
use Rattle.sheet.specs.Sheet.{sheet_with}
pub mod Laws

-- What the first tree, or the second, assumes of the weighed sum, by the limit.
abbrev pub threshold_for : Bool → ℕ → Threshold
threshold_for true limit = record { negated = true; plus = 2147483649; minus = limit }
threshold_for false limit = record { negated = false; plus = limit; minus = 2147483648 }

-- The sheet of these sections, with the nodes of one tree for both.
abbrev pub one_tree : Sizes → List ℕ → List ℕ → List ℕ → Sheet
one_tree z nodes numbers leaves = sheet_with z numbers leaves (tree_of z nodes) (tree_of z nodes)

-- The walk of the first tree, or of the second, with these nodes.
unfoldable pub walk_for : Protocol → Sizes → List ℕ → List ℕ → List ℕ → Bool → Walked
walk_for P z nodes numbers leaves second =
    cond second (second_walk P (one_tree z nodes numbers leaves)) (first_walk P (one_tree z nodes numbers leaves))
