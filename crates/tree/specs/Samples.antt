-- Samples of document 01 on the tree alone: the broadcast docket, and P4 to P7.
use Rattle.std.specs.Prelude.{◌≡◌, refl, List, [], ◌∷◌, ℕ}
use Rattle.theory.specs.Tree.{Walked, next, refused}
use Rattle.theory.specs.Tree.{disagreement, tree_answer, widest}
use Rattle.theory.proofs.Unfold.{walking}
use Rattle.format.specs.Samples.{reading}
use Rattle.format.specs.Format.{protocol_of, tree_of, weights_of}
use Rattle.format.specs.declared.Sizes.{Sizes}

-- A node with argument 0 and a set of states below 8.
abbrev node_of : ℕ → ℕ → ℕ → List ℕ → List ℕ
node_of kind party set rest = kind ∷ party ∷ 0 ∷ 0 ∷ set ∷ 0 ∷ 0 ∷ 0 ∷ 0 ∷ 0 ∷ 0 ∷ 0 ∷ rest

-- The nodes of the broadcast docket, with this set in node 2, and one node more.
abbrev nodes : ℕ → List ℕ
nodes set = node_of 3 1 0 (node_of 1 1 0 (node_of 5 1 set (node_of 6 2 2 (node_of 1 2 0 (node_of 1 2 0 [])))))

-- The sizes of the broadcast docket with n nodes.
abbrev sizes : ℕ → Sizes
sizes n = record { version = 1; states = 2; rules = 1; layers = 1; nodes = n; leaves = 0 }

-- The answer of the first n nodes of the broadcast docket, with this set in node 2.
abbrev answer : ℕ → ℕ → Walked
answer n set =
    let P = protocol_of (sizes n) (2 ∷ 3 ∷ []) (0 ∷ 1 ∷ 1 ∷ 1 ∷ 0 ∷ []) in
    tree_answer P (disagreement P (weights_of (sizes n) [])) (tree_of (sizes n) (nodes set))

pub samples : (answer 5 2 ≡ next 5)
    × (answer 5 4 ≡ refused 12 2)
    × (answer 5 1 ≡ refused 13 2)
    × (answer 4 2 ≡ refused 12 4)
    × (answer 6 2 ≡ refused 12 5)
unfolding walking reading
samples = (refl, refl, refl, refl, refl)

-- The widest set of the broadcast docket names one state.
pub one_wide : widest (tree_of (sizes 5) (nodes 2)) ≡ 1
unfolding walking reading
one_wide = refl

-- A modulus counts for nothing, whatever its bits: node 5 is of kind 7 with modulus 255.
pub modulus_not_wide : widest (tree_of (sizes 6) (node_of 3 1 0 (node_of 1 1 0 (node_of 5 1 2 (node_of 6 2 2 (node_of 1 2 0 (node_of 7 0 255 []))))))) ≡ 1
unfolding walking reading
modulus_not_wide = refl
