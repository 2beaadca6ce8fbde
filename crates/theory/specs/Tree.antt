-- The tree of arguments of document 01, "The tree", with kind 7 of document 02: traps and siphons, nodes with their grounds and children, and the walk.
use Rattle.std.specs.Prelude.{Bool, true, false, cond, ◌&&◌, ◌||◌, List, [], ◌∷◌, ℕ, zero, suc, ◌^◌, max, get_or, leb, ltb, eqb}
use Rattle.std.specs.Bool.{beq}
use Rattle.theory.specs.Bool.{imp, bit, member}
use Rattle.theory.specs.Below.{all_below, sum_below}
use Rattle.theory.specs.Protocol.{Protocol}
use Rattle.theory.specs.Facts.{Facts, with_absent, with_present, with_at_most_one, with_unused, fresh}
use Rattle.theory.specs.Leaf.{leaf_closes}
use Rattle.theory.specs.Remainder.{remainder_closes}

-- The fields of nodes 0 to nodes - 1, as they stand in the file.
pub record Tree : Type 0 where
  pub nodes : ℕ
  pub leaves : ℕ
  pub kind : ℕ → ℕ
  pub party : ℕ → ℕ
  pub argument : ℕ → ℕ
  pub set : ℕ → ℕ

-- How many states a 64-bit set names.
unfoldable pub set_size : ℕ → ℕ
set_size w = sum_below 64 (λ s. bit (member w s))

-- The size of the widest set that a node of kind 5 or 6 among the first n names, 0 where none does. A modulus (kind 7) is
-- no set.
unfoldable pub widest_below : Tree → ℕ → ℕ
widest_below T zero = 0
widest_below T (suc n) = max (widest_below T n) (cond (eqb (T.kind n) 5 || eqb (T.kind n) 6) (set_size (T.set n)) 0)

-- M: how many states the widest set of the tree names, 0 where there is none. In an accepted docket the sets are those of
-- kinds 5 and 6: in kinds 0 to 4 the set field is 0, in kind 7 it is a modulus, which does not count.
unfoldable pub widest : Tree → ℕ
widest T = widest_below T T.nodes

-- The set field of kind 7: a modulus, 2 to 1,000.
unfoldable pub is_modulus : ℕ → Bool
is_modulus m = leb 2 m && leb m 1000

-- What a tree refutes: so many runs from one start, each of which ends at a terminal configuration that holds a state of
-- the output assumed for it. closes F l: leaf l closes on the facts F. moduli m: a node of kind 7 may have the modulus m
-- (none may where trees have no such nodes); closes_modulo m F l: leaf l closes on the facts F by remainders modulo m.
pub record Assumption : Type 0 where
  pub runs : ℕ
  pub assumed : ℕ → Bool
  pub closes : Facts → ℕ → Bool
  pub moduli : ℕ → Bool
  pub closes_modulo : ℕ → Facts → ℕ → Bool

-- A node whose fields are as its kind wants them, by kind 0 to 7; or bad.
--   leaf l             leaf l closes
--   output_absent k     all states of the output assumed for end k are absent there
--   contradiction k s  state s is both present and absent at party k
--   disabled k r       rule r is not enabled at end k
--   case_split k s      state s is absent at party k, or present
--   trap k w           the set w is absent at end k, so it was at the start
--   siphon k w         the set w is absent at the start, so it is at end k
--   remainder l m      leaf l closes by remainders modulo m
pub data Node : Type 0 where
  leaf : ℕ → Node
  output_absent : ℕ → Node
  contradiction : ℕ → ℕ → Node
  disabled : ℕ → ℕ → Node
  case_split : ℕ → ℕ → Node
  trap : ℕ → ℕ → Node
  siphon : ℕ → ℕ → Node
  remainder : ℕ → ℕ → Node
  bad : Node

-- The number of the node at which the walk goes on, or a refusal's number and place.
pub data Walked : Type 0 where
  next : ℕ → Walked
  refused : ℕ → ℕ → Walked

-- The node n where its fields pass their test b, else bad.
unfoldable pub checked : Bool → Node → Node
checked true n = n
checked false n = bad

-- The refusal of a node: bad fields are 12, a ground that does not hold 13.
unfoldable pub refusal_number : Node → ℕ
refusal_number (leaf l) = 13
refusal_number (output_absent k) = 13
refusal_number (contradiction k s) = 13
refusal_number (disabled k r) = 13
refusal_number (case_split k s) = 13
refusal_number (trap k w) = 13
refusal_number (siphon k w) = 13
refusal_number (remainder l m) = 13
refusal_number bad = 12

-- Children in preorder, each on its own facts; t walks one child.
unfoldable pub forest : (Facts → ℕ → Walked) → List Facts → ℕ → Walked
forest t [] i = next i
forest t (F ∷ Fs) i = elim (t F i) [ next j ↦ forest t Fs j | refused n j ↦ refused n j ]

module _ (P : Protocol) where
  -- Rule r takes from the set A: its before pair meets A.
  unfoldable pub takes : (ℕ → Bool) → ℕ → Bool
  takes A r = A (P.p r) || A (P.q r)

  -- Rule r puts into the set A: its after pair meets A.
  unfoldable pub puts : (ℕ → Bool) → ℕ → Bool
  puts A r = A (P.p' r) || A (P.q' r)

  -- A rule of the protocol touches a set that either pair meets.
  unfoldable pub touches : (ℕ → Bool) → ℕ → Bool
  touches A r = ltb r P.rules && (takes A r || puts A r)

  -- Each rule not unused that passes f passes g.
  unfoldable pub follows : (ℕ → Bool) → (ℕ → Bool) → (ℕ → Bool) → Bool
  follows unused f g = all_below P.rules (λ r. unused r || imp (f r) (g r))

  -- Whether the set A is a trap (the paper: a U-trap, U being the rules not unused): each rule not unused that takes from
  -- A puts into it.
  unfoldable pub is_trap : (ℕ → Bool) → (ℕ → Bool) → Bool
  is_trap unused A = follows unused (takes A) (puts A)

  -- Whether the set A is a siphon (the paper: a U-siphon): each rule not unused that puts into A takes from it.
  unfoldable pub is_siphon : (ℕ → Bool) → (ℕ → Bool) → Bool
  is_siphon unused A = follows unused (puts A) (takes A)

  -- Every state of the set A has the fact f.
  unfoldable pub within : (ℕ → Bool) → (ℕ → Bool) → Bool
  within A f = all_below P.states (λ s. imp (A s) (f s))

  -- A set field: a non-empty subset of the states.
  unfoldable pub is_set : ℕ → Bool
  is_set w = ltb 0 w && ltb w (2 ^ P.states)

  -- The facts of a node's children.
  unfoldable pub children : Facts → Node → List Facts
  children F (leaf l) = []
  children F (output_absent k) = []
  children F (contradiction k s) = []
  children F (disabled k r) =
      elim (eqb (P.p r) (P.q r)) [
        | true ↦ with_at_most_one F k (eqb (P.p r)) ∷ []
        | false ↦ with_absent F k (eqb (P.p r)) ∷ with_absent F k (eqb (P.q r)) ∷ []
      ]
  children F (case_split k s) = with_absent F k (eqb s) ∷ with_present F k (eqb s) ∷ []
  children F (trap k w) = with_unused (with_absent F 0 (member w)) k (touches (member w)) ∷ []
  children F (siphon k w) = with_unused (with_absent F k (member w)) k (touches (member w)) ∷ []
  children F (remainder l m) = []
  children F bad = []

  -- The assumption of so many runs, with the output assumed for each, and the leaves of a docket: weights l k s is the biased
  -- weight of leaf l at end k.
  abbrev pub assuming : ℕ → (ℕ → Bool) → (ℕ → ℕ → ℕ → ℕ) → Assumption
  assuming runs assumed weights =
      record {
        runs = runs;
        assumed = assumed;
        closes = λ F l. leaf_closes P F (weights l);
        moduli = is_modulus;
        closes_modulo = λ m F l. remainder_closes P m F (weights l);
      }

  -- What the tree of a docket refutes: run 1 ends with a state of output 0 and run 2 with one of output 1.
  unfoldable pub disagreement : (ℕ → ℕ → ℕ → ℕ) → Assumption
  disagreement weights = assuming 2 (λ k. eqb k 2) weights

module _ (P : Protocol) (H : Assumption) where
  -- Whether party k is a run.
  unfoldable pub is_run : ℕ → Bool
  is_run k = leb 1 k && leb k H.runs

  -- The ground of a node.
  unfoldable pub ground : Facts → Node → Bool
  ground F (leaf l) = H.closes F l
  ground F (output_absent k) = within P (λ s. beq (P.output s) (H.assumed k)) (F.absent k)
  ground F (contradiction k s) = F.present k s && F.absent k s
  ground F (disabled k r) = true
  ground F (case_split k s) = true
  ground F (trap k w) = within P (member w) (F.absent k) && is_trap P (F.unused k) (member w)
  ground F (siphon k w) = within P (member w) (F.absent 0) && is_siphon P (F.unused k) (member w)
  ground F (remainder l m) = H.closes_modulo m F l
  ground F bad = false

  module _ (T : Tree) where
    -- A node with party k, argument a and set w, for each kind in turn. A field not named is 0.
    unfoldable pub by_kind : ℕ → ℕ → ℕ → List Node
    by_kind k a w =
        checked (eqb k 0 && ltb a T.leaves && eqb w 0) (leaf a)
        ∷ checked (is_run k && eqb a 0 && eqb w 0) (output_absent k)
        ∷ checked (leb k H.runs && ltb a P.states && eqb w 0) (contradiction k a)
        ∷ checked (is_run k && ltb a P.rules && eqb w 0) (disabled k a)
        ∷ checked (leb k H.runs && ltb a P.states && eqb w 0) (case_split k a)
        ∷ checked (is_run k && eqb a 0 && is_set P w) (trap k w)
        ∷ checked (is_run k && eqb a 0 && is_set P w) (siphon k w)
        ∷ checked (eqb k 0 && ltb a T.leaves && H.moduli w) (remainder a w)
        ∷ []

    -- Node i; an unknown kind is bad.
    unfoldable pub node : ℕ → Node
    node i = get_or (by_kind (T.party i) (T.argument i) (T.set i)) (T.kind i) bad

    -- The walk of the subtree at node i, which may be so many nodes deep: the number of the node behind it, or the refusal.
    unfoldable pub tree_at : ℕ → Facts → ℕ → Walked
    tree_at zero F i = refused 12 i
    tree_at (suc d) F i =
        elim (ltb i T.nodes) [
          | true ↦ elim (ground F (node i)) [ true ↦ forest (tree_at d) (children P F (node i)) (suc i) | false ↦ refused (refusal_number (node i)) i ]
          | false ↦ refused 12 T.nodes
        ]

    -- The whole tree, to depth 40; a node left over is refused. The answer next means accepted: it is next (T.nodes).
    unfoldable pub tree_answer : Walked
    tree_answer =
        elim (tree_at 40 (fresh P) 0) [
          | next j ↦ elim (eqb j T.nodes) [ true ↦ next j | false ↦ refused 12 j ]
          | refused n j ↦ refused n j
        ]
