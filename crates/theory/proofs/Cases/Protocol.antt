-- Sample protocols, with cases of enabled rules, rule numbers tried, verdicts and starts.
use Rattle.std.specs.Prelude.{◌≡◌, refl, true, false, List, [], ◌∷◌, ℕ, get_or, eqb, ltb}
use Rattle.theory.specs.Protocol.{Protocol, agreed, mixed, enabled, fires, terminal, after, meetings, output_of, start_test}
use Rattle.theory.proofs.Unfold.{meeting}

-- The i-th number of a list, 0 behind its end.
abbrev pub column : List ℕ → ℕ → ℕ
column xs i = get_or xs i 0

-- The i-th number of the k-th list.
abbrev pub rows : List (List ℕ) → ℕ → ℕ → ℕ
rows xss k = column (get_or xss k [])

-- ---- Broadcast, and a rule that meets its own kind

-- Rule 0 1 to 1 1.
abbrev pub broadcast : Protocol
broadcast = record { states = 2; rules = 1; p = λ _. 0; q = λ _. 1; p' = λ _. 1; q' = λ _. 1; output = λ s. eqb s 1; input = λ _. true; fixed = λ _. 0 }

-- Rules 0 0 to 0 1 and 0 1 to 1 1.
abbrev pub twins : Protocol
twins = record {
  states = 2;
  rules = 2;
  p = λ _. 0;
  q = column (0 ∷ 1 ∷ []);
  p' = column (0 ∷ 1 ∷ []);
  q' = λ _. 1;
  output = λ s. eqb s 1;
  input = λ _. true;
  fixed = λ _. 0;
}

-- Rule 0 0 to 0 1 is enabled at 2 0, not at 1 1.
pub own_kind : (enabled twins (2 ∷ 0 ∷ []) 0 ≡ true) × (enabled twins (1 ∷ 1 ∷ []) 0 ≡ false)
unfolding meeting
own_kind = (refl, refl)

-- A number that names no rule does not fire; of a list of rule numbers 1 and 7 name none, and the last is not enabled.
pub numbers-tried : (fires broadcast (1 ∷ 1 ∷ []) 0 ≡ true)
    × (fires broadcast (1 ∷ 1 ∷ []) 1 ≡ false)
    × (after broadcast (2 ∷ 1 ∷ []) (1 ∷ 0 ∷ 7 ∷ 0 ∷ 0 ∷ []) ≡ 0 ∷ 3 ∷ [])
    × (meetings broadcast (2 ∷ 1 ∷ []) (1 ∷ 0 ∷ 7 ∷ 0 ∷ 0 ∷ []) ≡ 2)
unfolding meeting
numbers-tried = (refl, refl, refl, refl)

-- ---- Majority

-- States A, B, a, b; rules AB to ab, Ab to Aa, Ba to Bb, ab to bb.
abbrev pub majority : Protocol
majority = record {
  states = 4;
  rules = 4;
  p = column (0 ∷ 0 ∷ 1 ∷ 2 ∷ []);
  q = column (1 ∷ 3 ∷ 2 ∷ 3 ∷ []);
  p' = column (2 ∷ 0 ∷ 1 ∷ 3 ∷ []);
  q' = column (3 ∷ 2 ∷ 3 ∷ 3 ∷ []);
  output = λ s. eqb (column (0 ∷ 1 ∷ 0 ∷ 1 ∷ []) s) 1;
  input = λ s. ltb s 2;
  fixed = λ _. 0;
}

-- The verdicts 0 and 1 where all occupied states have that output, else mixed.
pub verdicts : (output_of majority (1 ∷ 0 ∷ 2 ∷ 0 ∷ []) ≡ agreed false) × (output_of majority (0 ∷ 0 ∷ 0 ∷ 2 ∷ []) ≡ agreed true)
    × (output_of majority (1 ∷ 1 ∷ 0 ∷ 0 ∷ []) ≡ mixed)
unfolding meeting
verdicts = (refl, refl, refl)

-- A and B are inputs, a and b are not: the start test names the first of these that is occupied.
pub start_tests : (start_test majority (2 ∷ 1 ∷ 0 ∷ 0 ∷ []) ≡ 4) × (start_test majority (1 ∷ 0 ∷ 1 ∷ 1 ∷ []) ≡ 2) × (start_test majority (0 ∷ 0 ∷ 0 ∷ 2 ∷ []) ≡ 3)
unfolding meeting
start_tests = (refl, refl, refl)

-- ---- Two outcomes for one pair

-- Three states of which 0 and 1 are inputs. Rules 0 1 to 1 1, 0 1 to 1 2 and 0 2 to 1 2. States 1 and 2 have output 1.
abbrev pub two_outcomes : Protocol
two_outcomes = record {
  states = 3;
  rules = 3;
  p = λ _. 0;
  q = column (1 ∷ 1 ∷ 2 ∷ []);
  p' = λ _. 1;
  q' = column (1 ∷ 2 ∷ 2 ∷ []);
  output = λ s. ltb 0 s;
  input = λ s. ltb s 2;
  fixed = λ _. 0;
}

-- From 1 1 0 the two rules of the pair 0 1 lead to two terminal configurations, of one output.
pub outcomes : (after two_outcomes (1 ∷ 1 ∷ 0 ∷ []) (0 ∷ []) ≡ 0 ∷ 2 ∷ 0 ∷ [])
    × (after two_outcomes (1 ∷ 1 ∷ 0 ∷ []) (1 ∷ []) ≡ 0 ∷ 1 ∷ 1 ∷ [])
    × (terminal two_outcomes (0 ∷ 2 ∷ 0 ∷ []) ≡ true)
    × (terminal two_outcomes (0 ∷ 1 ∷ 1 ∷ []) ≡ true)
    × (output_of two_outcomes (0 ∷ 2 ∷ 0 ∷ []) ≡ agreed true)
    × (output_of two_outcomes (0 ∷ 1 ∷ 1 ∷ []) ≡ agreed true)
unfolding meeting
outcomes = (refl, refl, refl, refl, refl, refl)
