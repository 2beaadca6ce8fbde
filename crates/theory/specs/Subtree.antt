-- Which trees are accepted, and where a tree fails, said without the walk: document 01, "The tree", and the rows 12 and 13 of
-- "What a call says". A subtree may be d nodes deep; the whole tree, 40.
use Rattle.std.specs.Prelude.{◌≡◌, true, false, List, [], ◌∷◌, ◌⊎◌, ℕ, zero, suc, ◌<◌}
use Rattle.theory.specs.Protocol.{Protocol}
use Rattle.theory.specs.Facts.{Facts, fresh}
use Rattle.theory.specs.Tree.{Tree, Assumption, bad, children, ground, node}

-- Children stand one behind the other from node i on, each on its own facts, and node j is the first behind them; R F i k:
-- the child on F begins at i, and k is the first node behind it.
abbrev pub InOrder : (Facts → ℕ → ℕ → Type 0) → List Facts → ℕ → ℕ → Type 0
InOrder R [] i j = i ≡ j
InOrder R (F ∷ Fs) i j = (k : ℕ) × R F i k × InOrder R Fs k j

-- Q holds of one of the children, the first of which is at node i; those before it stand in order (R as above).
abbrev pub InOne : (Facts → ℕ → ℕ → Type 0) → (Facts → ℕ → Type 0) → List Facts → ℕ → Type 0
InOne R Q [] i = ⊥
InOne R Q (F ∷ Fs) i = Q F i ⊎ ((k : ℕ) × R F i k × InOne R Q Fs k)

module _ (P : Protocol) (H : Assumption) (T : Tree) where
  -- There is a node i, its fields are as its kind wants them, and its ground holds on the facts F.
  pub record Stands (F : Facts) (i : ℕ) : Type 0 where
    pub inside : i < T.nodes
    pub fields : node P H T i ≡ bad → ⊥
    pub grounded : ground P H F (node P H T i) ≡ true

  -- The subtree at node i stands on the facts F, at most d nodes deep, and node j is the first behind it.
  abbrev pub Subtree : ℕ → Facts → ℕ → ℕ → Type 0
  Subtree zero F i j = ⊥
  Subtree (suc d) F i j = Stands F i × InOrder (Subtree d) (children P F (node P H T i)) (suc i) j

  -- What is wrong at node i itself, by number n: the nodes ran out, a field is bad, or the ground does not hold.
  abbrev pub Wrong : Facts → ℕ → ℕ → Type 0
  Wrong F i n =
      ((i ≡ T.nodes) × (n ≡ 12))
      ⊎ ((i < T.nodes) × (node P H T i ≡ bad) × (n ≡ 12))
      ⊎ ((i < T.nodes) × (node P H T i ≡ bad → ⊥) × (ground P H F (node P H T i) ≡ false) × (n ≡ 13))

  -- The subtree at node i, on the facts F, fails by number n at place k: all before k stands, and at k the tree is too deep, or
  -- something is wrong there.
  abbrev pub Fails : ℕ → Facts → ℕ → ℕ → ℕ → Type 0
  Fails zero F i n k = (k ≡ i) × (n ≡ 12)
  Fails (suc d) F i n k =
      ((k ≡ i) × Wrong F i n)
      ⊎ (Stands F i × InOne (Subtree d) (λ G j. Fails d G j n k) (children P F (node P H T i)) (suc i))

  -- The tree is accepted: the root's subtree, on fresh facts, ends behind the last node.
  abbrev pub TreeStands : Type 0
  TreeStands = Subtree 40 (fresh P) 0 T.nodes

  -- The tree is refused by number n at place k: it fails there, or node k is left over.
  abbrev pub TreeFails : ℕ → ℕ → Type 0
  TreeFails n k = Fails 40 (fresh P) 0 n k ⊎ (Subtree 40 (fresh P) 0 k × (k < T.nodes) × (n ≡ 12))
