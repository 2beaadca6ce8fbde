-- Cases of the remainder rule, and a tree with a node of kind 7.
use Rattle.std.specs.Prelude.{◌≡◌, refl, Bool, true, false, [], ◌∷◌, ℕ, eqb, pos, negsuc}
use Rattle.theory.specs.Protocol.{Protocol, after, terminal}
use Rattle.theory.specs.Ladder.{Layers}
use Rattle.theory.specs.Facts.{Facts, with_absent, with_present, with_at_most_one, with_unused, fresh}
use Rattle.theory.specs.Leaf.{signed, signed_sum}
use Rattle.theory.specs.Remainder.{remainder_closes, exact_sum}
use Rattle.theory.specs.Tree.{Tree, next, refused, widest}
use Rattle.theory.proofs.Cases.Protocol.{column, rows, broadcast}
use Rattle.theory.proofs.Cases.Tree.{tree, answer_with, settled, one_weight}
use Rattle.theory.proofs.Unfold.{meeting, closing, walking}

-- Whether a leaf with the weights w closes on the facts F by remainders modulo m.
unfoldable pub closes_modulo : Protocol → ℕ → Facts → (ℕ → ℕ → ℕ) → Bool
unfolding closing
closes_modulo P m F w = remainder_closes P m F w

-- The facts F, and that state s holds exactly one agent at end k.
abbrev pub with_one : Facts → ℕ → ℕ → Facts
with_one F k s = with_at_most_one (with_present F k (eqb s)) k (eqb s)

-- ---- The ends

-- The weights v and w of state 1 at ends 1 and 2.
abbrev at_ends : ℕ → ℕ → ℕ → ℕ → ℕ
at_ends v w = rows ([] ∷ (10000 ∷ v ∷ []) ∷ (10000 ∷ w ∷ []) ∷ [])

-- State 1 holds exactly one agent at both ends.
abbrev one_each : Facts
one_each = with_one (with_one (fresh settled) 1 1) 2 1

-- In a protocol of no rules whose state 0 alone is an input. Weight 1 of state 1 at end 1 closes modulo 2 where that holds
-- exactly one agent; not where it may hold none or many, nor where it does so at end 2, nor where it is absent too.
-- Weight -1 closes, 2 and 0 do not.
pub one_exactly : (closes_modulo settled 2 (with_one (fresh settled) 1 1) (one_weight 1 1 10001) ≡ true)
    × (closes_modulo settled 2 (with_at_most_one (fresh settled) 1 (eqb 1)) (one_weight 1 1 10001) ≡ false)
    × (closes_modulo settled 2 (with_present (fresh settled) 1 (eqb 1)) (one_weight 1 1 10001) ≡ false)
    × (closes_modulo settled 2 (with_one (fresh settled) 2 1) (one_weight 1 1 10001) ≡ false)
    × (closes_modulo settled 2 (with_absent (with_one (fresh settled) 1 1) 1 (eqb 1)) (one_weight 1 1 10001) ≡ false)
    × (closes_modulo settled 2 (with_one (fresh settled) 1 1) (one_weight 1 1 9999) ≡ true)
    × (closes_modulo settled 2 (with_one (fresh settled) 1 1) (one_weight 1 1 10002) ≡ false)
    × (closes_modulo settled 2 (with_one (fresh settled) 1 1) (one_weight 1 1 10000) ≡ false)
unfolding closes_modulo
one_exactly = (refl, refl, refl, refl, refl, refl, refl, refl)

-- The sum is over both ends: 1 and 1 close modulo 3 and not modulo 2, 1 and -1 close modulo no m, 1 and 2 modulo 2 and not
-- modulo 3. The greatest modulus and the extreme weights: 10,000 is 0 modulo 1,000, and 10,000 and -1 are -1.
-- A state of weight 0 modulo m may hold many: end 2 has the weight -3 and no fact.
pub both_ends : (closes_modulo settled 3 one_each (at_ends 10001 10001) ≡ true)
    × (closes_modulo settled 2 one_each (at_ends 10001 10001) ≡ false)
    × (closes_modulo settled 3 one_each (at_ends 10001 9999) ≡ false)
    × (closes_modulo settled 2 one_each (at_ends 10001 10002) ≡ true)
    × (closes_modulo settled 3 one_each (at_ends 10001 10002) ≡ false)
    × (closes_modulo settled 1000 one_each (at_ends 20000 0) ≡ false)
    × (closes_modulo settled 1000 one_each (at_ends 20000 9999) ≡ true)
    × (closes_modulo settled 3 (with_one (fresh settled) 1 1) (at_ends 10001 9997) ≡ true)
    × (closes_modulo settled 3 (with_one (fresh settled) 1 1) (at_ends 10001 9998) ≡ false)
unfolding closes_modulo
both_ends = (refl, refl, refl, refl, refl, refl, refl, refl, refl)

-- In signed numbers: 1 at end 1 and -2 at end 2; nothing where the state is absent, present alone, or at most one alone.
pub signed_remainders : (exact_sum settled one_each (λ k s. signed (at_ends 10001 9998 k s)) 1 ≡ pos 1)
    × (exact_sum settled one_each (λ k s. signed (at_ends 10001 9998 k s)) 2 ≡ negsuc 1)
    × (exact_sum settled (with_absent one_each 1 (eqb 1)) (λ k s. signed (at_ends 10001 9998 k s)) 1 ≡ pos 0)
    × (exact_sum settled (with_present (fresh settled) 1 (eqb 1)) (λ k s. signed (at_ends 10001 9998 k s)) 1 ≡ pos 0)
    × (exact_sum settled (with_at_most_one (fresh settled) 1 (eqb 1)) (λ k s. signed (at_ends 10001 9998 k s)) 1 ≡ pos 0)
unfolding closing exact_sum signed_sum
signed_remainders = (refl, refl, refl, refl, refl)

-- ---- The start

-- The weights v and w of state 0 at ends 1 and 2, where it is absent at end 2 and holds exactly one agent at end 1.
abbrev at_start : ℕ → ℕ → ℕ → ℕ → ℕ
at_start v w = rows ([] ∷ (v ∷ 10000 ∷ []) ∷ (w ∷ 10000 ∷ []) ∷ [])

abbrev only_first : Facts
only_first = with_absent (with_one (fresh settled) 1 0) 2 (eqb 0)

-- State 0 may be at the start, so its two weights cancel: 1 and 1 modulo 2, 1 and 2 modulo 3, 1 and -1 modulo any m. 1 and
-- 0 do not modulo 3, though the biased sum 20,001 is a multiple of 3. Where the state is absent at the start they need not.
-- At end 2 its weight vanishes, or the state is absent.
pub start_remainders : (closes_modulo settled 2 only_first (at_start 10001 10001) ≡ true)
    × (closes_modulo settled 3 only_first (at_start 10001 10002) ≡ true)
    × (closes_modulo settled 7 only_first (at_start 10001 9999) ≡ true)
    × (closes_modulo settled 3 only_first (at_start 10001 10000) ≡ false)
    × (closes_modulo settled 3 (with_absent only_first 0 (eqb 0)) (at_start 10001 10000) ≡ true)
    × (closes_modulo settled 2 (with_one (fresh settled) 1 0) (at_start 10001 10001) ≡ false)
unfolding closes_modulo
start_remainders = (refl, refl, refl, refl, refl, refl)

-- ---- The rules

-- On the broadcast protocol: state 0 holds exactly one agent at end 1 and is absent at end 2.
abbrev one_left : Facts
one_left = with_absent (with_one (fresh broadcast) 1 0) 2 (eqb 0)

-- Weight 1 of state 0 at both ends; and with it -1 of state 1.
abbrev odd : ℕ → ℕ → ℕ
odd = rows ([] ∷ (10001 ∷ 10000 ∷ []) ∷ (10001 ∷ 10000 ∷ []) ∷ [])

abbrev by_two : ℕ → ℕ → ℕ
by_two = rows ([] ∷ (10001 ∷ 9999 ∷ []) ∷ (10001 ∷ 9999 ∷ []) ∷ [])

-- The rule takes an agent of state 0 and puts none back, so the first closes modulo 2 only where the rule is unused in both
-- runs. It changes the second by 2, which closes modulo 2 also where the rule is not unused, and not modulo 4.
pub rule_remainders : (closes_modulo broadcast 2 (with_unused (with_unused one_left 1 (eqb 0)) 2 (eqb 0)) odd ≡ true)
    × (closes_modulo broadcast 2 (with_unused one_left 1 (eqb 0)) odd ≡ false)
    × (closes_modulo broadcast 2 (with_unused one_left 2 (eqb 0)) odd ≡ false)
    × (closes_modulo broadcast 2 (with_absent (with_absent one_left 1 (eqb 1)) 2 (eqb 1)) by_two ≡ true)
    × (closes_modulo broadcast 4 (with_absent (with_absent one_left 1 (eqb 1)) 2 (eqb 1)) by_two ≡ false)
unfolding closes_modulo
rule_remainders = (refl, refl, refl, refl, refl)

-- ---- Parity: a count's remainder on division by 2

-- States O, E, o, e (0 to 3) of output 1, 0, 1, 0; O is the only input. Rules OO to Ee, OE to Oo, EE to Ee, Oe to Oo and
-- Eo to Ee: an odd number of agents ends with one O, an even one with one E.
abbrev pub parity : Protocol
parity = record {
  states = 4;
  rules = 5;
  p = column (0 ∷ 0 ∷ 1 ∷ 0 ∷ 1 ∷ []);
  q = column (0 ∷ 1 ∷ 1 ∷ 3 ∷ 2 ∷ []);
  p' = column (1 ∷ 0 ∷ 1 ∷ 0 ∷ 1 ∷ []);
  q' = column (3 ∷ 2 ∷ 3 ∷ 2 ∷ 3 ∷ []);
  output = λ s. eqb (column (1 ∷ 0 ∷ 1 ∷ 0 ∷ []) s) 1;
  input = eqb 0;
  fixed = λ _. 0;
}

-- The first three rules in layer 0, then a layer each.
abbrev pub parity_layers : Layers
parity_layers = record { count = 3; of = column (0 ∷ 0 ∷ 0 ∷ 1 ∷ 2 ∷ []) }

abbrev pub parity_weights : ℕ → ℕ → ℕ
parity_weights = rows ((1 ∷ 1 ∷ 0 ∷ 0 ∷ []) ∷ (0 ∷ 0 ∷ 0 ∷ 1 ∷ []) ∷ (0 ∷ 0 ∷ 1 ∷ 0 ∷ []) ∷ [])

-- Two agents end with E, three with O.
pub parity_runs : (after parity (2 ∷ 0 ∷ 0 ∷ 0 ∷ []) (0 ∷ []) ≡ 0 ∷ 1 ∷ 0 ∷ 1 ∷ [])
    × (terminal parity (0 ∷ 1 ∷ 0 ∷ 1 ∷ []) ≡ true)
    × (after parity (3 ∷ 0 ∷ 0 ∷ 0 ∷ []) (0 ∷ 1 ∷ 3 ∷ []) ≡ 1 ∷ 0 ∷ 2 ∷ 0 ∷ [])
    × (terminal parity (1 ∷ 0 ∷ 2 ∷ 0 ∷ []) ≡ true)
unfolding meeting
parity_runs = (refl, refl, refl, refl)

-- Rule OE to Oo is enabled at neither end. At end 1 O is absent (from node 1 on) or E is (from node 13 on), at end 2 O is
-- absent (node 2) or E is (node 7). The trap of O and E is absent at no end, as then all states were absent at the start.
-- What is left is node 12: O is absent at end 1 and present at end 2, E is absent there, and by node 7, which says that
-- rule r is not enabled at end 2, O holds at most one agent there where r is OO to Ee. Leaf 1 closes modulo m.
abbrev pub parity_tree : ℕ → ℕ → Tree
parity_tree r m =
    tree 18 2
    ((3 ∷ 1 ∷ 1 ∷ 0 ∷ [])
    ∷ (3 ∷ 2 ∷ 1 ∷ 0 ∷ [])
    ∷ (3 ∷ 2 ∷ 4 ∷ 0 ∷ [])
    ∷ (5 ∷ 2 ∷ 0 ∷ 3 ∷ [])
    ∷ (6 ∷ 2 ∷ 0 ∷ 15 ∷ [])
    ∷ (1 ∷ 2 ∷ 0 ∷ 0 ∷ [])
    ∷ (1 ∷ 2 ∷ 0 ∷ 0 ∷ [])
    ∷ (3 ∷ 2 ∷ r ∷ 0 ∷ [])
    ∷ (4 ∷ 2 ∷ 0 ∷ 0 ∷ [])
    ∷ (5 ∷ 2 ∷ 0 ∷ 3 ∷ [])
    ∷ (6 ∷ 2 ∷ 0 ∷ 15 ∷ [])
    ∷ (1 ∷ 2 ∷ 0 ∷ 0 ∷ [])
    ∷ (7 ∷ 0 ∷ 1 ∷ m ∷ [])
    ∷ (3 ∷ 1 ∷ 3 ∷ 0 ∷ [])
    ∷ (5 ∷ 1 ∷ 0 ∷ 3 ∷ [])
    ∷ (6 ∷ 1 ∷ 0 ∷ 15 ∷ [])
    ∷ (1 ∷ 1 ∷ 0 ∷ 0 ∷ [])
    ∷ (1 ∷ 1 ∷ 0 ∷ 0 ∷ [])
    ∷ [])

-- The leaf 1 0 0 0, 1 0 0 0.
abbrev pub odd_ones : ℕ → ℕ → ℕ
odd_ones = rows ([] ∷ (10001 ∷ 10000 ∷ 10000 ∷ 10000 ∷ []) ∷ (10001 ∷ 10000 ∷ 10000 ∷ 10000 ∷ []) ∷ [])

-- The tree is accepted with the modulus 2. With 3 the rules do not conserve the weight; with 1 and 1,001 the field is bad.
-- Where node 7 speaks of EE to Ee, O is present at end 2 and not known to hold at most one agent.
pub parity-tree : (answer_with odd_ones parity (parity_tree 0 2) ≡ next 18)
    × (answer_with odd_ones parity (parity_tree 0 3) ≡ refused 13 12)
    × (answer_with odd_ones parity (parity_tree 0 1) ≡ refused 12 12)
    × (answer_with odd_ones parity (parity_tree 0 1001) ≡ refused 12 12)
    × (answer_with odd_ones parity (parity_tree 2 2) ≡ refused 13 12)
unfolding answer_with
parity-tree = (refl, refl, refl, refl, refl)

-- The modulus does not count in M: 511 has nine one bits, and the widest set has four.
pub modulus_no_set : (widest (parity_tree 0 2) ≡ 4) × (widest (parity_tree 0 511) ≡ 4)
unfolding walking
modulus_no_set = (refl, refl)
