-- Cases of trees and leaves.
use Rattle.std.specs.Prelude.{◌≡◌, refl, Bool, true, false, cond, ◌&&◌, List, [], ◌∷◌, ℕ, eqb, ltb, ℤ, pos, negsuc, ◌+ℤ◌}
use Rattle.theory.specs.Protocol.{Protocol}
use Rattle.theory.specs.Facts.{Facts, with_absent, with_present, with_at_most_one, with_unused, fresh}
use Rattle.theory.specs.Leaf.{leaf_closes, signed, signed_sum, upper_sum, lower_sum}
use Rattle.theory.specs.Tree.{case_split, trap, siphon, children}
use Rattle.theory.specs.Tree.{Tree, Walked, next, refused, takes, puts, touches, disagreement, tree_answer}
use Rattle.theory.proofs.Cases.Protocol.{column, rows, broadcast, twins, majority, two_outcomes}
use Rattle.theory.proofs.Unfold.{walking, closing}

-- A tree of n nodes, each a row of kind, party, argument and set; with k leaves.
abbrev pub tree : ℕ → ℕ → List (List ℕ) → Tree
tree n k nodes =
    record { nodes = n; leaves = k; kind = λ i. rows nodes i 0; party = λ i. rows nodes i 1; argument = λ i. rows nodes i 2; set = λ i. rows nodes i 3 }

-- The weights of a leaf that are all 0.
abbrev pub no_weights : ℕ → ℕ → ℕ
no_weights k s = 10000

-- Leaf 1 has the weights w, and those of every other leaf are 0.
abbrev pub leaf_weights : (ℕ → ℕ → ℕ) → ℕ → ℕ → ℕ → ℕ
leaf_weights w l = cond (eqb l 1) w no_weights

-- The answer with these leaves. Weights are biased by 10,000.
unfoldable pub answer_with : (ℕ → ℕ → ℕ) → Protocol → Tree → Walked
unfolding walking
answer_with w P T = tree_answer P (disagreement P (leaf_weights w)) T

-- The answer, where the weights of every leaf are 0.
abbrev pub answer : Protocol → Tree → Walked
answer = answer_with no_weights

-- ---- The fields of a node

-- Three states of which 0 and 1 are inputs. Rules 0 1 to 1 1 and 1 2 to 0 2. States 1 and 2 have output 1.
abbrev pub catalyst : Protocol
catalyst = record {
  states = 3;
  rules = 2;
  p = column (0 ∷ 1 ∷ []);
  q = column (1 ∷ 2 ∷ []);
  p' = column (1 ∷ 0 ∷ []);
  q' = column (1 ∷ 2 ∷ []);
  output = λ s. ltb 0 s;
  input = λ s. ltb s 2;
  fixed = λ _. 0;
}

-- The tree of one node, of four leaves. A bad field is refused 12 at node 0, a ground that does not hold 13 at node 0; a
-- node with children is refused 12 at node 1, as the nodes run out.
abbrev lone : ℕ → ℕ → ℕ → ℕ → Walked
lone kind party argument set = answer catalyst (tree 1 4 ((kind ∷ party ∷ argument ∷ set ∷ []) ∷ []))

-- Kind 0: party 0, argument a leaf, set 0.
pub kind_0 : (lone 0 0 0 0 ≡ refused 13 0)
    × (lone 0 0 3 0 ≡ refused 13 0)
    × (lone 0 0 4 0 ≡ refused 12 0)
    × (lone 0 1 0 0 ≡ refused 12 0)
    × (lone 0 2 0 0 ≡ refused 12 0)
    × (lone 0 0 0 1 ≡ refused 12 0)
unfolding answer_with
kind_0 = (refl, refl, refl, refl, refl, refl)

-- Kind 1: party 1 or 2, argument 0, set 0.
pub kind_1 : (lone 1 1 0 0 ≡ refused 13 0)
    × (lone 1 2 0 0 ≡ refused 13 0)
    × (lone 1 0 0 0 ≡ refused 12 0)
    × (lone 1 3 0 0 ≡ refused 12 0)
    × (lone 1 1 1 0 ≡ refused 12 0)
    × (lone 1 1 0 1 ≡ refused 12 0)
unfolding answer_with
kind_1 = (refl, refl, refl, refl, refl, refl)

-- Kind 2: party 0 to 2, argument a state, set 0. State 2 is absent at the start and not present.
pub kind_2 : (lone 2 0 0 0 ≡ refused 13 0)
    × (lone 2 1 0 0 ≡ refused 13 0)
    × (lone 2 2 2 0 ≡ refused 13 0)
    × (lone 2 0 2 0 ≡ refused 13 0)
    × (lone 2 3 0 0 ≡ refused 12 0)
    × (lone 2 0 3 0 ≡ refused 12 0)
    × (lone 2 0 0 1 ≡ refused 12 0)
unfolding answer_with
kind_2 = (refl, refl, refl, refl, refl, refl, refl)

-- Kind 3: party 1 or 2, argument a rule, set 0.
pub kind_3 : (lone 3 1 0 0 ≡ refused 12 1)
    × (lone 3 2 1 0 ≡ refused 12 1)
    × (lone 3 0 0 0 ≡ refused 12 0)
    × (lone 3 3 0 0 ≡ refused 12 0)
    × (lone 3 1 2 0 ≡ refused 12 0)
    × (lone 3 1 0 1 ≡ refused 12 0)
unfolding answer_with
kind_3 = (refl, refl, refl, refl, refl, refl)

-- Kind 4: party 0 to 2, argument a state, set 0.
pub kind_4 : (lone 4 0 0 0 ≡ refused 12 1)
    × (lone 4 1 0 0 ≡ refused 12 1)
    × (lone 4 2 2 0 ≡ refused 12 1)
    × (lone 4 3 0 0 ≡ refused 12 0)
    × (lone 4 0 3 0 ≡ refused 12 0)
    × (lone 4 0 0 1 ≡ refused 12 0)
unfolding answer_with
kind_4 = (refl, refl, refl, refl, refl, refl)

-- Kind 5: party 1 or 2, argument 0, set non-empty and of the states: 1 to 7.
pub kind_5 : (lone 5 1 0 1 ≡ refused 13 0)
    × (lone 5 2 0 7 ≡ refused 13 0)
    × (lone 5 0 0 7 ≡ refused 12 0)
    × (lone 5 3 0 7 ≡ refused 12 0)
    × (lone 5 1 1 7 ≡ refused 12 0)
    × (lone 5 1 0 0 ≡ refused 12 0)
    × (lone 5 1 0 8 ≡ refused 12 0)
unfolding answer_with
kind_5 = (refl, refl, refl, refl, refl, refl, refl)

-- Kind 6: party 1 or 2, argument 0, set non-empty and of the states: 1 to 7. State 2 is absent at the start, so its set passes.
pub kind_6 : (lone 6 1 0 1 ≡ refused 13 0)
    × (lone 6 2 0 7 ≡ refused 13 0)
    × (lone 6 1 0 4 ≡ refused 12 1)
    × (lone 6 0 0 7 ≡ refused 12 0)
    × (lone 6 3 0 7 ≡ refused 12 0)
    × (lone 6 1 1 7 ≡ refused 12 0)
    × (lone 6 1 0 0 ≡ refused 12 0)
    × (lone 6 1 0 8 ≡ refused 12 0)
unfolding answer_with
kind_6 = (refl, refl, refl, refl, refl, refl, refl, refl)

-- Kind 7: party 0, argument a leaf, set a modulus of 2 to 1,000. No weight differs from 0, so no modulus closes.
pub kind_7 : (lone 7 0 0 2 ≡ refused 13 0)
    × (lone 7 0 3 1000 ≡ refused 13 0)
    × (lone 7 0 0 0 ≡ refused 12 0)
    × (lone 7 0 0 1 ≡ refused 12 0)
    × (lone 7 0 0 1001 ≡ refused 12 0)
    × (lone 7 0 0 4294967298 ≡ refused 12 0)
    × (lone 7 0 4 2 ≡ refused 12 0)
    × (lone 7 1 0 2 ≡ refused 12 0)
    × (lone 7 2 0 2 ≡ refused 12 0)
unfolding answer_with
kind_7 = (refl, refl, refl, refl, refl, refl, refl, refl, refl)

-- There are no other kinds.
pub kinds_end : (lone 8 0 0 0 ≡ refused 12 0)
    × (lone 8 0 0 2 ≡ refused 12 0)
    × (lone 8 1 0 1 ≡ refused 12 0)
    × (lone 255 1 0 0 ≡ refused 12 0)
unfolding answer_with
kinds_end = (refl, refl, refl, refl)

-- One sort of the facts of each child.
abbrev each : (Facts → ℕ → ℕ → Bool) → List Facts → List (ℕ → ℕ → Bool)
each f [] = []
each f (G ∷ Gs) = f G ∷ each f Gs

-- ---- Broadcast

-- The nodes of the broadcast docket, with node 2's set.
abbrev pub cast : ℕ → List (List ℕ)
cast w = (3 ∷ 1 ∷ 0 ∷ 0 ∷ []) ∷ (1 ∷ 1 ∷ 0 ∷ 0 ∷ []) ∷ (5 ∷ 1 ∷ 0 ∷ w ∷ []) ∷ (6 ∷ 2 ∷ 0 ∷ 2 ∷ []) ∷ (1 ∷ 2 ∷ 0 ∷ 0 ∷ []) ∷ []

-- P1 is accepted. P4 to P7 are refused: the sets 4 and 1 of node 2, a node cut and a node more.
-- Then three misreadings. Facts of a first child do not stand for the second: at node 2 state 0 is present at end 1, and
-- not absent.
-- A rule unused in run 1 is not unused in run 2: at node 4 the set of state 0 is no trap in run 2. A rule that meets its
-- own kind and is not enabled leaves at most one agent, not none.
pub trees : (answer broadcast (tree 5 0 (cast 2)) ≡ next 5)
    × (answer broadcast (tree 5 0 (cast 4)) ≡ refused 12 2)
    × (answer broadcast (tree 5 0 (cast 1)) ≡ refused 13 2)
    × (answer broadcast (tree 4 0 (cast 2)) ≡ refused 12 4)
    × (answer broadcast (tree 6 0 (cast 2)) ≡ refused 12 5)
    × (answer broadcast (tree 3 0 ((4 ∷ 1 ∷ 0 ∷ 0 ∷ []) ∷ (1 ∷ 1 ∷ 0 ∷ 0 ∷ []) ∷ (2 ∷ 1 ∷ 0 ∷ 0 ∷ []) ∷ [])) ≡ refused 13 2)
    × (answer broadcast (tree 5 0
    ((3 ∷ 1 ∷ 0 ∷ 0 ∷ []) ∷ (1 ∷ 1 ∷ 0 ∷ 0 ∷ []) ∷ (5 ∷ 1 ∷ 0 ∷ 2 ∷ []) ∷ (4 ∷ 2 ∷ 0 ∷ 0 ∷ []) ∷ (5 ∷ 2 ∷ 0 ∷ 1 ∷ []) ∷ [])) ≡ refused 13 4)
    × (answer twins (tree 2 0 ((3 ∷ 1 ∷ 0 ∷ 0 ∷ []) ∷ (1 ∷ 1 ∷ 0 ∷ 0 ∷ []) ∷ [])) ≡ refused 13 1)
unfolding answer_with
trees = (refl, refl, refl, refl, refl, refl, refl, refl)

-- ---- Two outcomes for one pair

-- Where neither rule 0 nor rule 2 of two_outcomes is enabled at end 1, state 0 is absent there (nodes 1 and 3), or states 1
-- and 2 are: their set is a trap, absent at the start too, so absent at end 2.
abbrev pub outcome_tree : Tree
outcome_tree =
    tree 7 0
    ((3 ∷ 1 ∷ 0 ∷ 0 ∷ [])
    ∷ (1 ∷ 1 ∷ 0 ∷ 0 ∷ [])
    ∷ (3 ∷ 1 ∷ 2 ∷ 0 ∷ [])
    ∷ (1 ∷ 1 ∷ 0 ∷ 0 ∷ [])
    ∷ (5 ∷ 1 ∷ 0 ∷ 6 ∷ [])
    ∷ (6 ∷ 2 ∷ 0 ∷ 6 ∷ [])
    ∷ (1 ∷ 2 ∷ 0 ∷ 0 ∷ [])
    ∷ [])

pub one_verdict : answer two_outcomes outcome_tree ≡ next 7
unfolding answer_with
one_verdict = refl

-- ---- Depth

-- No rules. State 1 is no input, so its set is absent at the start, and a siphon at every node.
abbrev pub settled : Protocol
settled = record {
  states = 2;
  rules = 0;
  p = λ _. 0;
  q = λ _. 0;
  p' = λ _. 0;
  q' = λ _. 0;
  output = λ s. eqb s 0;
  input = λ s. eqb s 0;
  fixed = λ _. 0;
}

-- n nodes, of which the first k are siphons, each the child of the one before; the others are of kind 1.
abbrev pub siphons : ℕ → ℕ → Tree
siphons n k = record { nodes = n; leaves = 0; kind = λ i. cond (ltb i k) 6 1; party = λ _. 1; argument = λ _. 0; set = λ i. cond (ltb i k) 2 0 }

-- Depth 40 is accepted, 41 is refused at its node. Nodes run out at depth 40, and at depth 41. Two nodes are left over.
pub depths : (answer settled (siphons 40 39) ≡ next 40)
    × (answer settled (siphons 41 40) ≡ refused 12 40)
    × (answer settled (siphons 39 39) ≡ refused 12 39)
    × (answer settled (siphons 40 40) ≡ refused 12 40)
    × (answer settled (siphons 42 39) ≡ refused 12 40)
unfolding answer_with
depths = (refl, refl, refl, refl, refl)

-- ---- Kinds 0 to 6 in one tree

-- The siphon of state 2 leaves rule 1 unused, in run k (node 0) and in run 2. Where state 1 is absent at the start it is
-- absent at end 2 (nodes 3 and 4). Where it is present there, rule 0 is not enabled at end 1: state 0 is absent there
-- (node 6), or state 1 is (node 7).
abbrev front : ℕ → List (List ℕ) → List (List ℕ)
front k end =
    (6 ∷ k ∷ 0 ∷ 4 ∷ [])
    ∷ (6 ∷ 2 ∷ 0 ∷ 4 ∷ [])
    ∷ (4 ∷ 0 ∷ 1 ∷ 0 ∷ [])
    ∷ (6 ∷ 2 ∷ 0 ∷ 2 ∷ [])
    ∷ (1 ∷ 2 ∷ 0 ∷ 0 ∷ [])
    ∷ (3 ∷ 1 ∷ 0 ∷ 0 ∷ [])
    ∷ (1 ∷ 1 ∷ 0 ∷ 0 ∷ [])
    ∷ end

-- The trap of state 1: it was absent at the start, where it is present.
abbrev by_trap : ℕ → Tree
by_trap k = tree 9 0 (front k ((5 ∷ 1 ∷ 0 ∷ 2 ∷ []) ∷ (2 ∷ 0 ∷ 1 ∷ 0 ∷ []) ∷ []))

-- Leaf l of two. Leaf 1 has the weights 0 -1 0 for end 1 and 0 0 0 for end 2: the start adds -1 to the upper sum, and the
-- lower sum is 0.
abbrev by_leaf : ℕ → ℕ → Tree
by_leaf k l = tree 8 2 (front k ((0 ∷ 0 ∷ l ∷ 0 ∷ []) ∷ []))

abbrev one_down : ℕ → ℕ → ℕ
one_down = rows ([] ∷ (10000 ∷ 9999 ∷ 10000 ∷ []) ∷ (10000 ∷ 10000 ∷ 10000 ∷ []) ∷ [])

-- Both are accepted. Leaf 0 does not close, and there is no leaf 2. Where rule 1 is unused in run 2 alone, the set of
-- state 1 is no trap in run 1, and leaf 1 does not close: rule 1 takes from state 1 and puts none back.
pub kinds_together : (answer catalyst (by_trap 1) ≡ next 9)
    × (answer_with one_down catalyst (by_leaf 1 1) ≡ next 8)
    × (answer_with one_down catalyst (by_leaf 1 0) ≡ refused 13 7)
    × (answer_with one_down catalyst (by_leaf 1 2) ≡ refused 12 7)
    × (answer catalyst (by_trap 2) ≡ refused 13 7)
    × (answer_with one_down catalyst (by_leaf 2 1) ≡ refused 13 7)
unfolding answer_with
kinds_together = (refl, refl, refl, refl, refl, refl)

-- Rule 1 puts into state 0 and does not take from it. The set of state 0 is a siphon in run j where it is absent at the
-- start and rule 1 is unused in run j, as the siphon of state 2 says of run k. The tree then goes on to node 4, which it
-- lacks.
abbrev by_siphon : ℕ → ℕ → Tree
by_siphon k j = tree 4 0 ((6 ∷ k ∷ 0 ∷ 4 ∷ []) ∷ (4 ∷ 0 ∷ 0 ∷ 0 ∷ []) ∷ (6 ∷ j ∷ 0 ∷ 1 ∷ []) ∷ (1 ∷ 1 ∷ 0 ∷ 0 ∷ []) ∷ [])

pub siphon_rules : (answer catalyst (by_siphon 1 1) ≡ refused 12 4)
    × (answer catalyst (by_siphon 1 2) ≡ refused 13 2)
    × (answer catalyst (by_siphon 2 1) ≡ refused 13 2)
    × (answer majority (tree 1 0 ((6 ∷ 1 ∷ 0 ∷ 12 ∷ []) ∷ [])) ≡ refused 13 0)
unfolding answer_with
siphon_rules = (refl, refl, refl, refl)

-- The trap of node 2 leaves the rule of the broadcast protocol unused in run 1, so that the set of state 0 is a trap too
-- (node 4).
pub trap_rules : (answer broadcast
    (tree 8 0 ((3 ∷ 1 ∷ 0 ∷ 0 ∷ []) ∷ (1 ∷ 1 ∷ 0 ∷ 0 ∷ []) ∷ (5 ∷ 1 ∷ 0 ∷ 2 ∷ []) ∷ (4 ∷ 1 ∷ 0 ∷ 0 ∷ []) ∷ (5 ∷ 1 ∷ 0 ∷ 1 ∷ []) ∷
    (1 ∷ 1 ∷ 0 ∷ 0 ∷ []) ∷ (6 ∷ 2 ∷ 0 ∷ 2 ∷ []) ∷ (1 ∷ 2 ∷ 0 ∷ 0 ∷ []) ∷ [])) ≡ next 8)
unfolding answer_with
trap_rules = refl

-- Only the rules that touch the set become unused. On majority: the trap of A and b at end 1 (node 2) touches all four
-- rules, so that the set of a is a trap behind it (node 4), and the tree goes on to node 5, which it lacks. The siphon of A
-- (node 1) touches the rules 0 and 1, which leaves no rule that puts into a, so that the set of a is a siphon (node 2).
pub touched_unused : (answer majority
    (tree 5 0 ((4 ∷ 1 ∷ 0 ∷ 0 ∷ []) ∷ (4 ∷ 1 ∷ 3 ∷ 0 ∷ []) ∷ (5 ∷ 1 ∷ 0 ∷ 9 ∷ []) ∷ (4 ∷ 1 ∷ 2 ∷ 0 ∷ []) ∷ (5 ∷ 1 ∷ 0 ∷ 4 ∷ []) ∷ [])) ≡ refused 12 5)
    × (answer majority (tree 3 0 ((4 ∷ 0 ∷ 0 ∷ 0 ∷ []) ∷ (6 ∷ 1 ∷ 0 ∷ 1 ∷ []) ∷ (6 ∷ 1 ∷ 0 ∷ 4 ∷ []) ∷ [])) ≡ refused 12 3)
unfolding answer_with
touched_unused = (refl, refl)

-- Each child keeps the facts that it is handed: of presence, of at most one, and of rules not touched.
pub kept : (P : Protocol) (F : Facts) (k s w : ℕ)
    → (each (λ G. G.present) (children P F (trap k w)) ≡ F.present ∷ [])
    × (each (λ G. G.present) (children P F (siphon k w)) ≡ F.present ∷ [])
    × (each (λ G. G.at_most_one) (children P F (trap k w)) ≡ F.at_most_one ∷ [])
    × (each (λ G. G.at_most_one) (children P F (siphon k w)) ≡ F.at_most_one ∷ [])
    × (each (λ G. G.at_most_one) (children P F (case_split k s)) ≡ F.at_most_one ∷ F.at_most_one ∷ [])
    × (each (λ G. G.unused) (children P F (case_split k s)) ≡ F.unused ∷ F.unused ∷ [])
unfolding walking
kept P F k s w = (refl, refl, refl, refl, refl, refl)

-- ---- At most one

-- Two inputs, one rule 0 0 to 1 1, all outputs 0.
abbrev pairing : Protocol
pairing = record {
  states = 2;
  rules = 1;
  p = λ _. 0;
  q = λ _. 0;
  p' = λ _. 1;
  q' = λ _. 1;
  output = λ _. false;
  input = λ _. true;
  fixed = λ _. 0;
}

-- A rule touches what it takes from and what it puts into; there is no rule 1.
pub touched : (touches pairing (eqb 0) 0 ≡ true) × (touches pairing (eqb 1) 0 ≡ true) × (touches pairing (eqb 2) 0 ≡ false)
    × (touches pairing (eqb 0) 1 ≡ false)
unfolding touches takes puts
touched = (refl, refl, refl, refl)

-- Kind 1 closes everywhere at party 2. Where both states are present at the start, state 1 is absent at end 1 and state 0
-- holds at most one agent there, leaf 1 closes with -1 for both states: one agent at the end, two at the start.
-- Without node 5 state 0 may hold many, and leaf 1 does not close.
abbrev splits : List (List ℕ) → List (List ℕ)
splits end =
    (4 ∷ 0 ∷ 0 ∷ 0 ∷ [])
    ∷ (1 ∷ 2 ∷ 0 ∷ 0 ∷ [])
    ∷ (4 ∷ 0 ∷ 1 ∷ 0 ∷ [])
    ∷ (1 ∷ 2 ∷ 0 ∷ 0 ∷ [])
    ∷ (4 ∷ 1 ∷ 1 ∷ 0 ∷ [])
    ∷ end

abbrev both_down : ℕ → ℕ → ℕ
both_down = rows ([] ∷ (9999 ∷ 9999 ∷ []) ∷ (10000 ∷ 10000 ∷ []) ∷ [])

pub at_most_one_lem : (answer_with both_down pairing (tree 8 2 (splits ((3 ∷ 1 ∷ 0 ∷ 0 ∷ []) ∷ (0 ∷ 0 ∷ 1 ∷ 0 ∷ []) ∷ (1 ∷ 2 ∷ 0 ∷ 0 ∷ []) ∷ []))) ≡ next 8)
    × (answer_with both_down pairing (tree 7 2 (splits ((0 ∷ 0 ∷ 1 ∷ 0 ∷ []) ∷ (1 ∷ 2 ∷ 0 ∷ 0 ∷ []) ∷ []))) ≡ refused 13 5)
unfolding answer_with
at_most_one_lem = (refl, refl)

-- The set of all states is a set: where both are absent at end 1 it is a trap, and a siphon where both are absent at the start.
pub full_set : (answer pairing
    (tree 7 0 ((4 ∷ 1 ∷ 0 ∷ 0 ∷ []) ∷ (4 ∷ 1 ∷ 1 ∷ 0 ∷ []) ∷ (5 ∷ 1 ∷ 0 ∷ 3 ∷ []) ∷ (6 ∷ 2 ∷ 0 ∷ 3 ∷ []) ∷ (1 ∷ 1 ∷ 0 ∷ 0 ∷ []) ∷
    (1 ∷ 2 ∷ 0 ∷ 0 ∷ []) ∷ (1 ∷ 2 ∷ 0 ∷ 0 ∷ []) ∷ [])) ≡ next 7)
unfolding answer_with
full_set = refl

-- ---- Leaves

-- Whether a leaf with the weights w closes on the facts F.
unfoldable pub closes : Protocol → Facts → (ℕ → ℕ → ℕ) → Bool
unfolding closing
closes P F w = leaf_closes P F w

-- Equal sums do not close, and a negative weight of a state that may hold many agents does not: weights 2 -1, -2 -2.
pub leaves_open : (closes broadcast (fresh broadcast) no_weights ≡ false)
    × (closes broadcast (with_absent (with_present (fresh broadcast) 1 (λ _. true)) 2 (λ _. true))
    (rows ([] ∷ (10002 ∷ 9999 ∷ []) ∷ (9998 ∷ 9998 ∷ []) ∷ [])) ≡ false)
unfolding closes
leaves_open = (refl, refl)

-- A leaf of two states that has 0 but for the weight w of state s at end k.
abbrev pub one_weight : ℕ → ℕ → ℕ → ℕ → ℕ → ℕ
one_weight k s w j t = cond (eqb j k && eqb t s) w 10000

-- In a protocol of no rules whose state 0 alone is an input: weight 1 of a state present at end 1 closes, of one not
-- present it does not. A weight of more than 0 is refused for a state that may be at the start.
-- A weight of -1 counts for a state present at the start and absent at the end, not for one that may be absent at the
-- start. It joins the lower sum where the state holds at most one agent, present or not. What is both present and absent
-- counts for nothing.
pub leaf_sums : (closes settled (with_present (fresh settled) 1 (eqb 1)) (one_weight 1 1 10001) ≡ true)
    × (closes settled (with_present (fresh settled) 2 (eqb 1)) (one_weight 1 1 10001) ≡ false)
    × (closes settled (with_present (fresh settled) 1 (eqb 0)) (one_weight 1 0 10001) ≡ false)
    × (closes settled (with_present (with_absent (fresh settled) 0 (eqb 0)) 1 (eqb 0)) (one_weight 1 0 10001) ≡ true)
    × (closes settled (with_absent (with_present (fresh settled) 1 (eqb 1)) 1 (eqb 1)) (one_weight 1 1 10001) ≡ false)
    × (closes settled (with_present (with_absent (fresh settled) 1 (eqb 0)) 0 (eqb 0)) (one_weight 1 0 9999) ≡ true)
    × (closes settled (with_absent (fresh settled) 1 (eqb 0)) (one_weight 1 0 9999) ≡ false)
    × (closes settled (with_present (with_at_most_one (fresh settled) 1 (eqb 0)) 0 (eqb 0)) (one_weight 1 0 9999) ≡ false)
    × (closes settled (with_absent (with_present (with_absent (fresh settled) 1 (eqb 0)) 0 (eqb 0)) 0 (eqb 0)) (one_weight 1 0 9999) ≡ false)
    × (closes settled (with_present (with_at_most_one (fresh settled) 1 (eqb 1)) 2 (eqb 1)) (rows ([] ∷ (10000 ∷ 9999 ∷ []) ∷ (10000 ∷ 10002 ∷ []) ∷ [])) ≡ true)
    × (closes settled (with_present (with_at_most_one (fresh settled) 1 (eqb 1)) 2 (eqb 1)) (rows ([] ∷ (10000 ∷ 9999 ∷ []) ∷ (10000 ∷ 10001 ∷ []) ∷ [])) ≡ false)
    × (closes settled (with_present (with_at_most_one (fresh settled) 2 (eqb 1)) 2 (eqb 1)) (rows ([] ∷ (10000 ∷ 9999 ∷ []) ∷ (10000 ∷ 10002 ∷ []) ∷ [])) ≡ false)
    × (closes settled (with_present (with_at_most_one (fresh settled) 2 (eqb 1)) 1 (eqb 1)) (rows ([] ∷ (10000 ∷ 10002 ∷ []) ∷ (10000 ∷ 9999 ∷ []) ∷ [])) ≡ true)
    × (closes settled (with_present (with_at_most_one (fresh settled) 1 (eqb 1)) 1 (eqb 1)) (rows ([] ∷ (10000 ∷ 10002 ∷ []) ∷ (10000 ∷ 9999 ∷ []) ∷ [])) ≡ false)
unfolding closes
leaf_sums = (refl, refl, refl, refl, refl, refl, refl, refl, refl, refl, refl, refl, refl, refl)

-- In signed numbers: state 1 holds at most one agent at end 1, where its weight is -1, and is present at end 2, where it
-- is 2. Then a weight of -1 for a state present at the start.
abbrev few_facts : Facts
few_facts = with_present (with_at_most_one (fresh settled) 1 (eqb 1)) 2 (eqb 1)

abbrev few_weights : ℕ → ℕ → ℤ
few_weights k s = signed (rows ([] ∷ (10000 ∷ 9999 ∷ []) ∷ (10000 ∷ 10002 ∷ []) ∷ []) k s)

pub signed_sums : (lower_sum settled few_facts 1 (few_weights 1) ≡ negsuc 0)
    × (lower_sum settled few_facts 2 (few_weights 2) ≡ pos 2)
    × (upper_sum settled few_facts (λ s. few_weights 1 s +ℤ few_weights 2 s) ≡ pos 0)
    × (upper_sum settled (with_present (fresh settled) 0 (eqb 0)) (λ s. signed (one_weight 1 0 9999 1 s)) ≡ negsuc 0)
unfolding closes lower_sum upper_sum signed_sum
signed_sums = (refl, refl, refl, refl)

-- State 0 of the broadcast protocol is present at the start and absent at end 2. Its weight -1 closes only where the
-- rule, which raises it, is unused in run 2.
pub leaf_rules : (closes broadcast (with_unused (with_present (with_absent (fresh broadcast) 2 (eqb 0)) 0 (eqb 0)) 2 (eqb 0)) (one_weight 2 0 9999) ≡ true)
    × (closes broadcast (with_unused (with_present (with_absent (fresh broadcast) 2 (eqb 0)) 0 (eqb 0)) 1 (eqb 0)) (one_weight 2 0 9999) ≡ false)
unfolding closes
leaf_rules = (refl, refl)

-- The leaf 1 -1 0 0, -1 1 0 0, biased, on facts with A present at end 1 and absent at end 2.
abbrev votes : ℕ → ℕ → ℕ
votes = rows ([] ∷ (10001 ∷ 9999 ∷ 10000 ∷ 10000 ∷ []) ∷ (9999 ∷ 10001 ∷ 10000 ∷ 10000 ∷ []) ∷ [])

abbrev some_facts : Facts
some_facts = with_present (with_absent (fresh majority) 2 (eqb 0)) 1 (eqb 0)

pub P12 : (closes majority (with_absent some_facts 1 (eqb 1)) votes ≡ true) × (closes majority some_facts votes ≡ false)
unfolding closes
P12 = (refl, refl)
