-- Cases of fixed agents: starts, fresh facts, the leaf rule and the remainder rule at the start, and a tree that needs them.
use Rattle.std.specs.Prelude.{◌≡◌, refl, Bool, true, false, not, ◌&&◌, ◌||◌, List, [], ◌∷◌, ℕ, leb, ltb, eqb, pos, negsuc}
use Rattle.std.proofs.Common.{arith}
use Rattle.theory.specs.Bool.{bit}
use Rattle.theory.specs.Below.{all_below}
use Rattle.theory.specs.Protocol.{Protocol, start_test}
use Rattle.theory.specs.Facts.{Facts, with_absent, with_present, with_at_most_one, fresh}
use Rattle.theory.specs.Leaf.{start_fits, times, signed, signed_sum, upper_sum}
use Rattle.theory.specs.Remainder.{congruent, known, start_vanishes, fixed_sum}
use Rattle.theory.specs.Tree.{Tree, next, refused}
use Rattle.theory.proofs.Cases.Protocol.{column, rows}
use Rattle.theory.proofs.Cases.Tree.{tree, answer_with, settled, closes, one_weight}
use Rattle.theory.proofs.Cases.Remainder.{closes_modulo, with_one, parity}
use Rattle.theory.proofs.Unfold.{meeting, closing}

-- The rules of P with other inputs, and with fixed agents.
abbrev pub fixing : Protocol → (ℕ → Bool) → List ℕ → Protocol
fixing P input fixed = record {
  states = P.states;
  rules = P.rules;
  p = P.p;
  q = P.q;
  p' = P.p';
  q' = P.q';
  output = P.output;
  input = input;
  fixed = column fixed;
}

-- No rules, state 0 an input and n agents fixed in state 1; which is no input, or one too.
abbrev pub kept : ℕ → Protocol
kept n = fixing settled (eqb 0) (0 ∷ n ∷ [])

abbrev pub kept_input : ℕ → Protocol
kept_input n = fixing settled (λ _. true) (0 ∷ n ∷ [])

-- Where three agents are fixed in a state that is no input, two are too few and four too many; in an input state two are too
-- few. State 0 is free.
pub fixed_starts_lem : (start_test (kept 3) (2 ∷ 3 ∷ []) ≡ 2)
    × (start_test (kept 3) (0 ∷ 3 ∷ []) ≡ 2)
    × (start_test (kept 3) (2 ∷ 2 ∷ []) ≡ 1)
    × (start_test (kept 3) (2 ∷ 4 ∷ []) ≡ 1)
    × (start_test (kept_input 3) (2 ∷ 2 ∷ []) ≡ 1)
    × (start_test (kept_input 3) (2 ∷ 4 ∷ []) ≡ 2)
    × (start_test (kept 0) (2 ∷ 1 ∷ []) ≡ 1)
unfolding meeting
fixed_starts_lem = (refl, refl, refl, refl, refl, refl, refl)

-- A state with fixed agents is present at the start and not absent, an input or not. Nothing is said of other parties.
pub fixed_fresh : ((fresh (kept 3)).present 0 1 ≡ true)
    × ((fresh (kept 3)).absent 0 1 ≡ false)
    × ((fresh (kept_input 3)).present 0 1 ≡ true)
    × ((fresh (kept 3)).present 0 0 ≡ false)
    × ((fresh (kept 3)).absent 0 0 ≡ false)
    × ((fresh (kept 3)).present 1 1 ≡ false)
    × ((fresh (kept 0)).present 0 1 ≡ false)
    × ((fresh (kept 0)).absent 0 1 ≡ true)
unfolding fresh
fixed_fresh = (refl, refl, refl, refl, refl, refl, refl, refl)

-- State 0 is present at end 1 and absent at end 2. With its weights a and -a the lower sum is a. The weight 1 of state 1 adds
-- 3 to the upper sum, once for each of its agents. Where the state is an input its sign is not free; where it is absent at
-- the start it adds nothing.
abbrev here : Protocol → Facts
here P = with_absent (with_present (fresh P) 1 (eqb 0)) 2 (eqb 0)

pub fixed_extra : (closes (kept 3) (here (kept 3)) (rows ([] ∷ (10004 ∷ 10001 ∷ []) ∷ (9996 ∷ 10000 ∷ []) ∷ [])) ≡ true)
    × (closes (kept 3) (here (kept 3)) (rows ([] ∷ (10003 ∷ 10001 ∷ []) ∷ (9997 ∷ 10000 ∷ []) ∷ [])) ≡ false)
    × (closes (kept_input 3) (here (kept_input 3)) (rows ([] ∷ (10004 ∷ 10001 ∷ []) ∷ (9996 ∷ 10000 ∷ []) ∷ [])) ≡ false)
    × (closes (kept 3) (with_absent (here (kept 3)) 0 (eqb 1)) (rows ([] ∷ (10001 ∷ 10001 ∷ []) ∷ (9999 ∷ 10000 ∷ []) ∷ [])) ≡ true)
unfolding closes
fixed_extra = (refl, refl, refl, refl)

-- State 0 holds at most one agent at end 1, so that with its weights -a and a the lower sum is -a. The weight -1 of state 1,
-- absent at end 1, takes 3 off the upper sum, an input or not; nothing where the state is absent at the start.
abbrev gone : Protocol → Facts
gone P = with_absent (with_at_most_one (fresh P) 1 (eqb 0)) 1 (eqb 1)

pub fixed_spare : (closes (kept 3) (gone (kept 3)) (rows ([] ∷ (9998 ∷ 9999 ∷ []) ∷ (10002 ∷ 10000 ∷ []) ∷ [])) ≡ true)
    × (closes (kept 3) (gone (kept 3)) (rows ([] ∷ (9997 ∷ 9999 ∷ []) ∷ (10003 ∷ 10000 ∷ []) ∷ [])) ≡ false)
    × (closes (kept_input 3) (gone (kept_input 3)) (rows ([] ∷ (9998 ∷ 9999 ∷ []) ∷ (10002 ∷ 10000 ∷ []) ∷ [])) ≡ true)
    × (closes (kept_input 3) (gone (kept_input 3)) (rows ([] ∷ (9997 ∷ 9999 ∷ []) ∷ (10003 ∷ 10000 ∷ []) ∷ [])) ≡ false)
    × (closes (kept 3) (with_absent (gone (kept 3)) 0 (eqb 1)) (rows ([] ∷ (9998 ∷ 9999 ∷ []) ∷ (10002 ∷ 10000 ∷ []) ∷ [])) ≡ false)
unfolding closes
fixed_spare = (refl, refl, refl, refl, refl)

-- In signed numbers: the weight 1 or -1 of state 1 joins the upper sum three times, and not where the state is absent at the
-- start. An input with fixed agents is not taken off the sum of kind 7.
pub fixed_signed : (upper_sum (kept 3) (fresh (kept 3)) (λ s. signed (one_weight 1 1 10001 1 s)) ≡ pos 3)
    × (upper_sum (kept_input 3) (fresh (kept_input 3)) (λ s. signed (one_weight 1 1 9999 1 s)) ≡ negsuc 2)
    × (upper_sum (kept 3) (with_absent (fresh (kept 3)) 0 (eqb 1)) (λ s. signed (one_weight 1 1 10001 1 s)) ≡ pos 0)
    × (fixed_sum (kept 3) (fresh (kept 3)) (λ k s. signed (one_weight 1 1 9999 k s)) ≡ negsuc 2)
    × (fixed_sum (kept_input 3) (fresh (kept_input 3)) (λ k s. signed (one_weight 1 1 9999 k s)) ≡ pos 0)
unfolding closing upper_sum fixed_sum signed_sum
fixed_signed = (refl, refl, refl, refl, refl)

-- Kind 7, where state 1 has weight 1 for end 1 and is absent there: three fixed agents leave a remainder modulo 2, two do not.
-- As an input the state needs weights that cancel; absent at the start it is not taken off.
-- Where state 1 holds exactly one agent at end 1, the two fixed ones are taken off that one, and -1 is not 0 modulo 3.
pub fixed_remainders : (closes_modulo (kept 3) 2 (with_absent (fresh (kept 3)) 1 (eqb 1)) (one_weight 1 1 10001) ≡ true)
    × (closes_modulo (kept 2) 2 (with_absent (fresh (kept 2)) 1 (eqb 1)) (one_weight 1 1 10001) ≡ false)
    × (closes_modulo (kept_input 3) 2 (with_absent (fresh (kept_input 3)) 1 (eqb 1)) (one_weight 1 1 10001) ≡ false)
    × (closes_modulo (kept 3) 2 (with_absent (with_absent (fresh (kept 3)) 1 (eqb 1)) 0 (eqb 1)) (one_weight 1 1 10001) ≡ false)
    × (closes_modulo (kept 2) 3 (with_one (fresh (kept 2)) 1 1) (one_weight 1 1 10001) ≡ true)
    × (closes_modulo (kept 1) 3 (with_one (fresh (kept 1)) 1 1) (one_weight 1 1 10001) ≡ false)
unfolding closes_modulo
fixed_remainders = (refl, refl, refl, refl, refl, refl)

-- ---- Parity, with agents fixed in O

-- E is the only input, and every start has n agents in O.
abbrev pub seeded : ℕ → Protocol
seeded n = fixing parity (eqb 1) (n ∷ [])

-- An odd number of O is kept, so O is present at end 1 and e is absent there, and so is E.
abbrev pub seeded_tree : Tree
seeded_tree = tree 5 2 ((3 ∷ 1 ∷ 1 ∷ 0 ∷ []) ∷ (7 ∷ 0 ∷ 1 ∷ 2 ∷ []) ∷ (3 ∷ 1 ∷ 3 ∷ 0 ∷ []) ∷ (7 ∷ 0 ∷ 1 ∷ 2 ∷ []) ∷ (1 ∷ 1 ∷ 0 ∷ 0 ∷ []) ∷ [])

-- The leaf 1 0 0 0, 0 0 0 0.
abbrev pub seed : ℕ → ℕ → ℕ
seed = rows ([] ∷ (10001 ∷ 10000 ∷ 10000 ∷ 10000 ∷ []) ∷ (10000 ∷ 10000 ∷ 10000 ∷ 10000 ∷ []) ∷ [])

-- Three are an odd number, two are not.
pub seeds : (answer_with seed (seeded 3) seeded_tree ≡ next 5) × (answer_with seed (seeded 2) seeded_tree ≡ refused 13 1)
unfolding answer_with
seeds = (refl, refl)

-- ---- Without fixed agents

-- Without fixed agents, as in version 1, fresh facts and the start halves of both rules are those of documents 01 and 02
-- before Job 4.
pub version_1 : (P : Protocol) (F : Facts) (m b : ℕ) (w : ℕ → ℕ) → let Q = fixing P P.input [] in
    (fresh Q ≡ record {
      absent = λ k s. eqb k 0 && (ltb s P.states && not (P.input s));
      present = λ _ _. false;
      at_most_one = λ _ _. false;
      unused = λ _ _. false;
    })
    × (start_fits Q F b w ≡ all_below P.states (λ s. F.absent 0 s || leb (w s) b))
    × ((s : ℕ) → times Q F s ≡ bit (not (F.absent 0 s) && F.present 0 s))
    × (start_vanishes Q m F b w ≡ all_below P.states (λ s. F.absent 0 s || congruent m (w s) b))
    × ((s : ℕ) → known Q F s ≡ 0)
unfolding fresh start_fits times start_vanishes known
version_1 P F m b w = (refl, refl, λ s. refl, refl, λ s. omega arith)
