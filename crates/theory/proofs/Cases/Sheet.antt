-- Cases of claim sheets: what they claim, their leaf rules, their trees, and the sheets of two protocols.
use Rattle.std.specs.Prelude.{◌≡◌, refl, Bool, true, false, cond, List, [], ◌∷◌, ℕ, length, eqb, ltb, pos, negsuc}
use Rattle.theory.specs.Protocol.{Protocol}
use Rattle.theory.specs.Facts.{Facts, with_absent, with_present, with_at_most_one, with_unused, fresh}
use Rattle.theory.specs.Tree.{Tree, Walked, next, refused}
use Rattle.theory.specs.Sheet.{Sheet, at_least, at_most, sheet_closes, sheet_answer, number_of, limit_of, weighed_sum}
use Rattle.theory.specs.Sheet.Claimed.{claimed}
use Rattle.theory.proofs.Cases.Protocol.{column, rows, broadcast, majority}
use Rattle.theory.proofs.Cases.Tree.{tree, catalyst, settled, siphons}
use Rattle.theory.proofs.Cases.Fixed.{fixing, kept, kept_input}
use Rattle.theory.proofs.Unfold.{claiming}

-- A sheet with these numbers and limit, biased; a row of biased weights for each leaf, and the multipliers; and the rows of
-- the nodes of two trees.
abbrev pub sheet : List ℕ → ℕ → List (List ℕ) → List ℕ → List (List ℕ) → List (List ℕ) → Sheet
sheet numbers limit leaves multipliers first second = record {
  numbers = column numbers;
  limit = limit;
  weights = rows leaves;
  multiplier = column multipliers;
  first = tree (length first) (length leaves) first;
  second = tree (length second) (length leaves) second;
}

-- ---- The claim

-- The numbers of two states, and the limit.
abbrev asks : ℕ → ℕ → ℕ → Sheet
asks a b limit = sheet (a ∷ b ∷ []) limit [] [] [] []

-- The numbers are -1 and 2. The sums 3, 2, -1 and -2 against the limits 3 and -1.
pub claims : (claimed (asks 32767 32770 2147483651) (1 ∷ 2 ∷ []) ≡ true)
    × (claimed (asks 32767 32770 2147483651) (2 ∷ 2 ∷ []) ≡ false)
    × (claimed (asks 32767 32770 2147483647) (1 ∷ 0 ∷ []) ≡ true)
    × (claimed (asks 32767 32770 2147483647) (2 ∷ 0 ∷ []) ≡ false)
unfolding claiming
claims = (refl, refl, refl, refl)

-- The least and the greatest number, against the least and the greatest limit: -32,768 times 65,536 is -2,147,483,648, and
-- 32,767 times 65,538 is 2,147,483,646.
pub extreme_claims : (claimed (asks 0 32768 0) (65536 ∷ 0 ∷ []) ≡ true)
    × (claimed (asks 0 32768 0) (65537 ∷ 0 ∷ []) ≡ false)
    × (claimed (asks 65535 32768 4294967295) (65538 ∷ 0 ∷ []) ≡ false)
    × (claimed (asks 65535 32768 4294967295) (65539 ∷ 0 ∷ []) ≡ true)
unfolding claiming
extreme_claims = (refl, refl, refl, refl)

-- In signed numbers.
pub signed_claims : (weighed_sum settled (asks 32767 32770 0) (1 ∷ 2 ∷ []) ≡ pos 3)
    × (weighed_sum settled (asks 32767 32770 0) (2 ∷ 0 ∷ []) ≡ negsuc 1)
    × (number_of (asks 32767 32770 0) 0 ≡ negsuc 0)
    × (number_of (asks 32767 32770 0) 1 ≡ pos 2)
    × (limit_of (asks 0 0 2147483651) ≡ pos 3)
    × (limit_of (asks 0 0 2147483647) ≡ negsuc 0)
unfolding claiming
signed_claims = (refl, refl, refl, refl, refl, refl)

-- Fixed agents count: state 1, of number 2, has three, as an input and as none.
pub fixed_claims : (weighed_sum (kept 3) (asks 32768 32770 0) (4 ∷ 3 ∷ []) ≡ pos 6)
    × (weighed_sum (kept_input 3) (asks 32768 32770 0) (4 ∷ 5 ∷ []) ≡ pos 10)
    × (claimed (asks 32768 32770 2147483654) (4 ∷ 3 ∷ []) ≡ true)
    × (claimed (asks 32768 32770 2147483655) (4 ∷ 3 ∷ []) ≡ false)
unfolding claiming
fixed_claims = (refl, refl, refl, refl)

-- ---- Leaves

-- Whether a leaf with the biased weights w and the multiplier k closes on the facts F, in the first tree and in the second.
abbrev in_first : Sheet → Protocol → Facts → List ℕ → ℕ → Bool
in_first Z P F w k = sheet_closes P (at_least Z) F (column w) k

abbrev in_second : Sheet → Protocol → Facts → List ℕ → ℕ → Bool
in_second Z P F w k = sheet_closes P (at_most Z) F (column w) k

-- The number of state 0 is 1; or -1.
abbrev counts : ℕ → Sheet
counts limit = asks 32769 32768 limit

abbrev uncounts : ℕ → Sheet
uncounts limit = asks 32767 32768 limit

-- A protocol of no rules whose state 0 alone is an input. At the end that state holds at most one agent, or some; or it
-- holds some at the start and none at the end.
abbrev few : Facts
few = with_at_most_one (fresh settled) 1 (eqb 0)

abbrev some : Facts
some = with_present (fresh settled) 1 (eqb 0)

abbrev lost : Facts
lost = with_present (with_absent (fresh settled) 1 (eqb 0)) 0 (eqb 0)

-- The first tree, where the state holds at most one agent at the end. With weight -1 and multiplier 1, y + k a is 0, the
-- lower sum is -1 and the upper -c: the leaf closes where c is 2, not where it is 1. With -2 and 2 it is the same. It does not
-- close where the state may hold many agents, with weight 0, as y + k a is above 0, and with multiplier 0, as c does not count.
-- With weight -2 and multiplier 1, y + k a is -1. It joins the upper sum where the state is present at the start: there c may
-- be 2, elsewhere 3.
pub first_leaves : (in_first (counts 2147483650) settled few (9999 ∷ 10000 ∷ []) 1 ≡ true)
    × (in_first (counts 2147483649) settled few (9999 ∷ 10000 ∷ []) 1 ≡ false)
    × (in_first (counts 2147483650) settled few (9998 ∷ 10000 ∷ []) 2 ≡ true)
    × (in_first (counts 2147483649) settled few (9998 ∷ 10000 ∷ []) 2 ≡ false)
    × (in_first (counts 2147483650) settled (fresh settled) (9999 ∷ 10000 ∷ []) 1 ≡ false)
    × (in_first (counts 2147483650) settled few (10000 ∷ 10000 ∷ []) 1 ≡ false)
    × (in_first (counts 2147483650) settled few (9999 ∷ 10000 ∷ []) 0 ≡ false)
    × (in_first (counts 2147483650) settled (with_present few 0 (eqb 0)) (9998 ∷ 10000 ∷ []) 1 ≡ true)
    × (in_first (counts 2147483649) settled (with_present few 0 (eqb 0)) (9998 ∷ 10000 ∷ []) 1 ≡ false)
    × (in_first (counts 2147483651) settled few (9998 ∷ 10000 ∷ []) 1 ≡ true)
    × (in_first (counts 2147483650) settled few (9998 ∷ 10000 ∷ []) 1 ≡ false)
unfolding claiming
first_leaves = (refl, refl, refl, refl, refl, refl, refl, refl, refl, refl, refl)

-- The second tree, where the state holds some agents at the end. With weight 1 and multiplier 1, y - k a is 0, the lower sum
-- is 1 and the upper c - 1: the leaf closes where c is 1, not where it is 2. With 2 and 2 it is the same. It does not close
-- where the state may hold none, and with multiplier 0, as y - k a is above 0.
pub second_leaves : (in_second (counts 2147483649) settled some (10001 ∷ 10000 ∷ []) 1 ≡ true)
    × (in_second (counts 2147483650) settled some (10001 ∷ 10000 ∷ []) 1 ≡ false)
    × (in_second (counts 2147483649) settled some (10002 ∷ 10000 ∷ []) 2 ≡ true)
    × (in_second (counts 2147483650) settled some (10002 ∷ 10000 ∷ []) 2 ≡ false)
    × (in_second (counts 2147483649) settled (fresh settled) (10001 ∷ 10000 ∷ []) 1 ≡ false)
    × (in_second (counts 2147483649) settled some (10001 ∷ 10000 ∷ []) 0 ≡ false)
unfolding claiming
second_leaves = (refl, refl, refl, refl, refl, refl)

-- The number is -1. The first tree, some agents at the end, weight 1: 1 exceeds -c where c is 0, not where it is -1. The
-- second, at most one agent, weight -1: -1 exceeds c - 1 where c is -1, not where it is 0.
pub negative_leaves : (in_first (uncounts 2147483648) settled some (10001 ∷ 10000 ∷ []) 1 ≡ true)
    × (in_first (uncounts 2147483647) settled some (10001 ∷ 10000 ∷ []) 1 ≡ false)
    × (in_second (uncounts 2147483647) settled few (9999 ∷ 10000 ∷ []) 1 ≡ true)
    × (in_second (uncounts 2147483648) settled few (9999 ∷ 10000 ∷ []) 1 ≡ false)
unfolding claiming
negative_leaves = (refl, refl, refl, refl)

-- Some agents at the start and none at the end, weight -1. With multiplier 0 the leaf closes in either tree, whatever the
-- limit. With 1, y + k a is 0, and 0 exceeds -c where c is 1, not where it is 0.
pub multiplied_leaves : (in_first (counts 0) settled lost (9999 ∷ 10000 ∷ []) 0 ≡ true)
    × (in_second (counts 4294967295) settled lost (9999 ∷ 10000 ∷ []) 0 ≡ true)
    × (in_first (counts 2147483649) settled lost (9999 ∷ 10000 ∷ []) 1 ≡ true)
    × (in_first (counts 2147483648) settled lost (9999 ∷ 10000 ∷ []) 1 ≡ false)
unfolding claiming
multiplied_leaves = (refl, refl, refl, refl)

-- The rule of the broadcast protocol raises the weights -1 0. So the leaf closes only where the rule is unused in run 1.
pub rules-kept : (in_first (counts 0) broadcast (with_unused (with_present (with_absent (fresh broadcast) 1 (eqb 0)) 0 (eqb 0)) 1 (eqb 0))
    (9999 ∷ 10000 ∷ []) 0 ≡ true)
    × (in_first (counts 0) broadcast (with_unused (with_present (with_absent (fresh broadcast) 1 (eqb 0)) 0 (eqb 0)) 2 (eqb 0))
    (9999 ∷ 10000 ∷ []) 0 ≡ false)
unfolding claiming
rules-kept = (refl, refl)

-- ---- Leaves and fixed agents

-- State 1 has three fixed agents, is absent at the end and has weight -2. Its number is 1 in the first tree and -1 in the
-- second, so that y + k a and y - k a are -1. They join the upper sum three times, an input or not. So 0 exceeds -3 - c where
-- c is -2, not where it is -3; and it exceeds -3 + c - 1 where c is 3, not where it is 4.
pub fixed_leaves : (in_first (asks 32768 32769 2147483646) (kept 3) (with_absent (fresh (kept 3)) 1 (eqb 1)) (10000 ∷ 9998 ∷ []) 1 ≡ true)
    × (in_first (asks 32768 32769 2147483645) (kept 3) (with_absent (fresh (kept 3)) 1 (eqb 1)) (10000 ∷ 9998 ∷ []) 1 ≡ false)
    × (in_first (asks 32768 32769 2147483646) (kept_input 3) (with_absent (fresh (kept_input 3)) 1 (eqb 1)) (10000 ∷ 9998 ∷ []) 1 ≡ true)
    × (in_first (asks 32768 32769 2147483645) (kept_input 3) (with_absent (fresh (kept_input 3)) 1 (eqb 1)) (10000 ∷ 9998 ∷ []) 1 ≡ false)
    × (in_second (asks 32768 32767 2147483651) (kept_input 3) (with_absent (fresh (kept_input 3)) 1 (eqb 1)) (10000 ∷ 9998 ∷ []) 1 ≡ true)
    × (in_second (asks 32768 32767 2147483652) (kept_input 3) (with_absent (fresh (kept_input 3)) 1 (eqb 1)) (10000 ∷ 9998 ∷ []) 1 ≡ false)
unfolding claiming
fixed_leaves = (refl, refl, refl, refl, refl, refl)

-- Its number is 0, its weight 1, and it is present at the end. Where it is no input the sign is free, and 3 joins the upper
-- sum: 1 exceeds 3 - c where c is 3, not where it is 2; and it exceeds 3 + c - 1 where c is -2, not where it is -1. Where it
-- is an input the leaf does not close.
pub free_signs : (in_first (asks 32768 32768 2147483651) (kept 3) (with_present (fresh (kept 3)) 1 (eqb 1)) (10000 ∷ 10001 ∷ []) 1 ≡ true)
    × (in_first (asks 32768 32768 2147483650) (kept 3) (with_present (fresh (kept 3)) 1 (eqb 1)) (10000 ∷ 10001 ∷ []) 1 ≡ false)
    × (in_first (asks 32768 32768 2147483651) (kept_input 3) (with_present (fresh (kept_input 3)) 1 (eqb 1)) (10000 ∷ 10001 ∷ []) 1 ≡ false)
    × (in_second (asks 32768 32768 2147483646) (kept 3) (with_present (fresh (kept 3)) 1 (eqb 1)) (10000 ∷ 10001 ∷ []) 1 ≡ true)
    × (in_second (asks 32768 32768 2147483647) (kept 3) (with_present (fresh (kept 3)) 1 (eqb 1)) (10000 ∷ 10001 ∷ []) 1 ≡ false)
    × (in_second (asks 32768 32768 2147483646) (kept_input 3) (with_present (fresh (kept_input 3)) 1 (eqb 1)) (10000 ∷ 10001 ∷ []) 1 ≡ false)
unfolding claiming
free_signs = (refl, refl, refl, refl, refl, refl)

-- ---- Nodes

-- A sheet of the protocol catalyst, of three states with the number 0 and one leaf with weights of 0 and the multiplier 1.
-- With the limit 0 the leaf closes in the second tree only, with the limit 1 in the first only.
abbrev flat : ℕ → List (List ℕ) → List (List ℕ) → Walked
flat limit first second =
    sheet_answer catalyst (sheet (32768 ∷ 32768 ∷ 32768 ∷ []) limit ((10000 ∷ 10000 ∷ 10000 ∷ []) ∷ []) (1 ∷ []) first second)

-- One node in the first tree; and one in the second, behind a first tree that is accepted.
abbrev lone_first : ℕ → ℕ → ℕ → ℕ → Walked
lone_first kind argument set party = flat 2147483648 ((kind ∷ party ∷ argument ∷ set ∷ []) ∷ []) []

abbrev lone_second : ℕ → ℕ → ℕ → ℕ → Walked
lone_second kind argument set party = flat 2147483649 ((0 ∷ 0 ∷ 0 ∷ 0 ∷ []) ∷ []) ((kind ∷ party ∷ argument ∷ set ∷ []) ∷ [])

-- With the parties 0, 1 and 2.
abbrev by_party : (ℕ → Walked) → List Walked
by_party lone = lone 0 ∷ lone 1 ∷ lone 2 ∷ []

-- Kind 0 wants party 0, kinds 1, 3, 5 and 6 want party 1, kinds 2 and 4 party 0 or 1. There is no party 2 and no kind 7. A
-- bad field is 12 at the node, a ground that does not hold 13 there; where the nodes run out it is 12 one past the last.
pub first-nodes : (by_party (lone_first 0 0 0) ≡ refused 13 0 ∷ refused 12 0 ∷ refused 12 0 ∷ [])
    × (by_party (lone_first 1 0 0) ≡ refused 12 0 ∷ refused 13 0 ∷ refused 12 0 ∷ [])
    × (by_party (lone_first 2 0 0) ≡ refused 13 0 ∷ refused 13 0 ∷ refused 12 0 ∷ [])
    × (by_party (lone_first 3 0 0) ≡ refused 12 0 ∷ refused 12 1 ∷ refused 12 0 ∷ [])
    × (by_party (lone_first 4 0 0) ≡ refused 12 1 ∷ refused 12 1 ∷ refused 12 0 ∷ [])
    × (by_party (lone_first 5 0 1) ≡ refused 12 0 ∷ refused 13 0 ∷ refused 12 0 ∷ [])
    × (by_party (lone_first 6 0 4) ≡ refused 12 0 ∷ refused 12 1 ∷ refused 12 0 ∷ [])
    × (by_party (lone_first 7 0 2) ≡ refused 12 0 ∷ refused 12 0 ∷ refused 12 0 ∷ [])
    × (lone_first 0 1 0 0 ≡ refused 12 0)
unfolding claiming
first-nodes = (refl, refl, refl, refl, refl, refl, refl, refl, refl)

-- The same in the second tree, whose one node is node 1.
pub second-nodes : (by_party (lone_second 0 0 0) ≡ refused 13 1 ∷ refused 12 1 ∷ refused 12 1 ∷ [])
    × (by_party (lone_second 1 0 0) ≡ refused 12 1 ∷ refused 13 1 ∷ refused 12 1 ∷ [])
    × (by_party (lone_second 2 0 0) ≡ refused 13 1 ∷ refused 13 1 ∷ refused 12 1 ∷ [])
    × (by_party (lone_second 3 0 0) ≡ refused 12 1 ∷ refused 12 2 ∷ refused 12 1 ∷ [])
    × (by_party (lone_second 4 0 0) ≡ refused 12 2 ∷ refused 12 2 ∷ refused 12 1 ∷ [])
    × (by_party (lone_second 5 0 1) ≡ refused 12 1 ∷ refused 13 1 ∷ refused 12 1 ∷ [])
    × (by_party (lone_second 6 0 4) ≡ refused 12 1 ∷ refused 12 2 ∷ refused 12 1 ∷ [])
    × (by_party (lone_second 7 0 2) ≡ refused 12 1 ∷ refused 12 1 ∷ refused 12 1 ∷ [])
unfolding claiming
second-nodes = (refl, refl, refl, refl, refl, refl, refl, refl)

-- A tree of no nodes has run out at once, each at its place. A node left over is 12 at its own place, before its fields are
-- looked at. The first tree's refusal comes first.
pub tree_ends : (flat 2147483648 [] [] ≡ refused 12 0)
    × (flat 2147483649 ((0 ∷ 0 ∷ 0 ∷ 0 ∷ []) ∷ []) [] ≡ refused 12 1)
    × (flat 2147483649 ((0 ∷ 0 ∷ 0 ∷ 0 ∷ []) ∷ (9 ∷ 9 ∷ 9 ∷ 9 ∷ []) ∷ []) [] ≡ refused 12 1)
    × (flat 2147483648 ((0 ∷ 0 ∷ 0 ∷ 0 ∷ []) ∷ []) ((0 ∷ 0 ∷ 0 ∷ 0 ∷ []) ∷ []) ≡ refused 13 0)
    × (flat 2147483648 ((9 ∷ 0 ∷ 0 ∷ 0 ∷ []) ∷ []) ((9 ∷ 0 ∷ 0 ∷ 0 ∷ []) ∷ []) ≡ refused 12 0)
unfolding claiming
tree_ends = (refl, refl, refl, refl, refl)

-- n nodes, of which the first k are siphons, each the child of the one before; the others are leaves.
abbrev deep : ℕ → ℕ → Tree
deep n k = record {
  nodes = n;
  leaves = 1;
  kind = λ i. cond (ltb i k) 6 0;
  party = λ i. cond (ltb i k) 1 0;
  argument = λ _. 0;
  set = λ i. cond (ltb i k) 2 0;
}

abbrev deep_sheet : Tree → Tree → Sheet
deep_sheet first second = record {
  numbers = λ _. 32768;
  limit = 2147483648;
  weights = λ _ _. 10000;
  multiplier = λ _. 1;
  first = first;
  second = second;
}

-- Each tree may be 40 nodes deep; depth 41 is refused at its node.
pub sheet_depths : (sheet_answer settled (deep_sheet (siphons 40 39) (deep 40 39)) ≡ next 80)
    × (sheet_answer settled (deep_sheet (siphons 41 40) (deep 40 39)) ≡ refused 12 40)
    × (sheet_answer settled (deep_sheet (siphons 40 39) (deep 41 40)) ≡ refused 12 80)
unfolding claiming
sheet_depths = (refl, refl, refl)

-- ---- Majority

-- The number of B less that of A is at least 0. The leaves are A - B and B - A. The first tree's root has the party, its
-- last node the kind.
abbrev pub most : ℕ → ℕ → List (List ℕ) → Sheet
most party kind second =
    sheet (32767 ∷ 32769 ∷ 32768 ∷ 32768 ∷ []) 2147483648
    ((10001 ∷ 9999 ∷ 10000 ∷ 10000 ∷ []) ∷ (9999 ∷ 10001 ∷ 10000 ∷ 10000 ∷ []) ∷ []) (1 ∷ 1 ∷ [])
    ((3 ∷ party ∷ 0 ∷ 0 ∷ [])
    ∷ (3 ∷ 1 ∷ 2 ∷ 0 ∷ [])
    ∷ (3 ∷ 1 ∷ 3 ∷ 0 ∷ [])
    ∷ (1 ∷ 1 ∷ 0 ∷ 0 ∷ [])
    ∷ (5 ∷ 1 ∷ 0 ∷ 11 ∷ [])
    ∷ (6 ∷ 1 ∷ 0 ∷ 15 ∷ [])
    ∷ (1 ∷ 1 ∷ 0 ∷ 0 ∷ [])
    ∷ (1 ∷ 1 ∷ 0 ∷ 0 ∷ [])
    ∷ (4 ∷ 1 ∷ 0 ∷ 0 ∷ [])
    ∷ (3 ∷ 1 ∷ 3 ∷ 0 ∷ [])
    ∷ (1 ∷ 1 ∷ 0 ∷ 0 ∷ [])
    ∷ (5 ∷ 1 ∷ 0 ∷ 11 ∷ [])
    ∷ (6 ∷ 1 ∷ 0 ∷ 15 ∷ [])
    ∷ (1 ∷ 1 ∷ 0 ∷ 0 ∷ [])
    ∷ (kind ∷ 0 ∷ 0 ∷ 0 ∷ [])
    ∷ [])
    second

-- The second tree, with what follows its first three nodes.
abbrev pub fewer : List (List ℕ) → List (List ℕ)
fewer end = (3 ∷ 1 ∷ 0 ∷ 0 ∷ []) ∷ (0 ∷ 0 ∷ 1 ∷ 0 ∷ []) ∷ (3 ∷ 1 ∷ 1 ∷ 0 ∷ []) ∷ end

abbrev pub majority_sheet : Sheet
majority_sheet = most 1 0 (fewer ((0 ∷ 0 ∷ 1 ∷ 0 ∷ []) ∷ (1 ∷ 1 ∷ 0 ∷ 0 ∷ []) ∷ []))

pub most_accepted : sheet_answer majority majority_sheet ≡ next 20
unfolding claiming
most_accepted = refl

-- Party 2 and kind 7 are bad fields in the first tree. In the second: it lacks its last node, it has one too many, leaf 0
-- does not close.
pub most_refused : (sheet_answer majority (most 2 0 []) ≡ refused 12 0)
    × (sheet_answer majority (most 1 7 []) ≡ refused 12 14)
    × (sheet_answer majority (most 1 0 (fewer ((0 ∷ 0 ∷ 1 ∷ 0 ∷ []) ∷ []))) ≡ refused 12 19)
    × (sheet_answer majority (most 1 0 (fewer ((0 ∷ 0 ∷ 1 ∷ 0 ∷ []) ∷ (1 ∷ 1 ∷ 0 ∷ 0 ∷ []) ∷ (1 ∷ 1 ∷ 0 ∷ 0 ∷ []) ∷ []))) ≡ refused 12 20)
    × (sheet_answer majority (most 1 0 (fewer ((0 ∷ 0 ∷ 0 ∷ 0 ∷ []) ∷ (1 ∷ 1 ∷ 0 ∷ 0 ∷ []) ∷ []))) ≡ refused 13 18)
unfolding claiming
most_refused = (refl, refl, refl, refl, refl)

-- ---- Broadcast

-- The number of agents in state 1 is at least the limit. The leaf is 0 0.
abbrev heard : ℕ → List (List ℕ) → Sheet
heard limit second =
    sheet (32768 ∷ 32769 ∷ []) limit ((10000 ∷ 10000 ∷ []) ∷ []) (1 ∷ [])
    ((3 ∷ 1 ∷ 0 ∷ 0 ∷ []) ∷ (1 ∷ 1 ∷ 0 ∷ 0 ∷ []) ∷ (5 ∷ 1 ∷ 0 ∷ 2 ∷ []) ∷ (0 ∷ 0 ∷ 0 ∷ 0 ∷ []) ∷ [])
    second

abbrev nobody : List (List ℕ)
nobody = (4 ∷ 0 ∷ 1 ∷ 0 ∷ []) ∷ (6 ∷ 1 ∷ 0 ∷ 2 ∷ []) ∷ (1 ∷ 1 ∷ 0 ∷ 0 ∷ []) ∷ (0 ∷ 0 ∷ 0 ∷ 0 ∷ []) ∷ []

-- At least 1 is accepted. At least 0 is not, by the first tree; at least 2 is not, by the second.
pub broadcast_sheets : (sheet_answer broadcast (heard 2147483649 nobody) ≡ next 8)
    × (sheet_answer broadcast (heard 2147483648 nobody) ≡ refused 13 3)
    × (sheet_answer broadcast (heard 2147483650 nobody) ≡ refused 13 7)
unfolding claiming
broadcast_sheets = (refl, refl, refl)

-- With three agents fixed in state 1 there are never fewer there: at least 3 is accepted by a leaf alone, at least 4 is
-- not.
pub fixed_sheets : (sheet_answer (fixing broadcast (λ _. true) (0 ∷ 3 ∷ [])) (heard 2147483651 ((0 ∷ 0 ∷ 0 ∷ 0 ∷ []) ∷ [])) ≡ next 5)
    × (sheet_answer (fixing broadcast (λ _. true) (0 ∷ 3 ∷ [])) (heard 2147483652 ((0 ∷ 0 ∷ 0 ∷ 0 ∷ []) ∷ [])) ≡ refused 13 4)
unfolding claiming
fixed_sheets = (refl, refl)
