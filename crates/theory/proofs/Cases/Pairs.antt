-- Cases of the number of pairs.
use Rattle.std.specs.Prelude.{◌≡◌, refl, [], ◌∷◌, ℕ}
use Rattle.theory.specs.Pairs.{pairs, pairs_among, rules_between}
use Rattle.theory.proofs.Unfold.{meeting}
use Rattle.theory.proofs.Cases.Protocol.{column, twins, two_outcomes}

-- Rule 0 of twins takes two agents of state 0, rule 1 one of state 0 and one of state 1.
pub pair_numbers : (pairs twins (3 ∷ 1 ∷ []) 0 ≡ 3) × (pairs twins (3 ∷ 1 ∷ []) 1 ≡ 3)
    × (pairs twins (2 ∷ 4 ∷ []) 0 ≡ 1) × (pairs twins (2 ∷ 4 ∷ []) 1 ≡ 8)
    × (pairs twins (1 ∷ 3 ∷ []) 0 ≡ 0) × (pairs twins (0 ∷ 3 ∷ []) 0 ≡ 0) × (pairs twins (0 ∷ 3 ∷ []) 1 ≡ 0)
unfolding meeting
pair_numbers = (refl, refl, refl, refl, refl, refl, refl)

-- Agents 0 to 3 are in states 0, 0, 1 and 0. Both in state 0 are agents 0 and 1, 0 and 3, 1 and 3; one in state 0 and the other in
-- state 1 are agents 0 and 2, 1 and 2, 2 and 3.
abbrev agents : ℕ → ℕ
agents = column (0 ∷ 0 ∷ 1 ∷ 0 ∷ [])

pub pair_by_pair : (pairs_among 4 agents 0 0 ≡ 3) × (pairs_among 4 agents 0 1 ≡ 3) × (pairs_among 4 agents 1 0 ≡ 3) × (pairs_among 4 agents 1 1 ≡ 0)
unfolding meeting
pair_by_pair = (refl, refl, refl, refl)

-- Rules 0 and 1 of two_outcomes are for states 0 and 1, rule 2 is for states 0 and 2.
pub rule_numbers : (rules_between two_outcomes 0 1 ≡ 2) × (rules_between two_outcomes 1 0 ≡ 2)
    × (rules_between two_outcomes 2 0 ≡ 1) × (rules_between two_outcomes 0 0 ≡ 0)
unfolding meeting
rule_numbers = (refl, refl, refl, refl)
