-- What the functions on a tree answer, beside theory's walk: what an answer of the code stands for, what a tree aims at,
-- the size of a node's set.
use Rattle.std.specs.Prelude.{◌≡◌, Bool, cond, ◌||◌, List, ℕ, eqb, Result, Ok, Err}
use Rattle.theory.specs.Tree.{Walked, next, refused, set_size}
use Rattle.refusals.specs.declared.Refusal.{Refusal}
use Rattle.format.specs.Format.{node_kind, node_set}
use Rattle.format.specs.declared.Sizes.{Sizes}
use Rattle.threshold.specs.declared.Leaves.{Leaves}
use Rattle.node.specs.Code.{AimFits}
use Rattle.node.specs.declared.Aim.{Aim}
pub mod Laws

-- What an answer stands for: the next node, or a refusal.
abbrev pub walked_of : Result ℕ Refusal → Walked
walked_of (Ok j) = next j
walked_of (Err r) = refused r.number r.place

-- The aim a speaks of k runs that end with a state of the outputs u and v, and whose says whose leaves the tree has.
pub record AimsAt (z : Sizes) (states : List ℕ) (k : ℕ) (u v : Bool) (whose : Leaves) (a : Aim) : Type 0 where
  pub fits : AimFits z states a
  pub runs : a.runs ≡ k
  pub first : a.first ≡ u
  pub second : a.second ≡ v
  pub leaves : a.whose ≡ whose

-- How many states the set of node i names; 0 where its kind names none.
abbrev pub set_size_at : List ℕ → ℕ → ℕ
set_size_at nodes i = cond (eqb (node_kind nodes i) 5 || eqb (node_kind nodes i) 6) (set_size (node_set nodes i)) 0
