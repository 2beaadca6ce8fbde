-- Cases of the list of starts: its order, fixed agents, states that are no inputs; its length; what a start rests at.
use Rattle.std.specs.Prelude.{◌≡◌, refl, not, [], ◌∷◌, eqb, length}
use Rattle.theory.specs.Protocol.{Protocol}
use Rattle.theory.specs.Starts.{binomial, inputs_of, fixed_total, starts}
use Rattle.theory.specs.Machine.{rest_numbers, rest_of}
use Rattle.theory.proofs.Cases.Protocol.{majority}
use Rattle.theory.proofs.Cases.Ladder.{two_layers, vote_weights}
use Rattle.theory.proofs.Cases.Fixed.{fixing}
use Rattle.theory.proofs.Unfold.{starting}

-- Four states with 5, 0, 7 and 1 fixed agents, of which all but state 2 are inputs.
abbrev with_fixed : Protocol
with_fixed = fixing majority (λ s. not (eqb s 2)) (5 ∷ 0 ∷ 7 ∷ 1 ∷ [])

-- The first input's count is the greatest first, then the next one's. State 2 has its fixed agents and no others.
pub two-agents : starts with_fixed 2 ≡
    (7 ∷ 0 ∷ 7 ∷ 1 ∷ [])
    ∷ (6 ∷ 1 ∷ 7 ∷ 1 ∷ [])
    ∷ (6 ∷ 0 ∷ 7 ∷ 2 ∷ [])
    ∷ (5 ∷ 2 ∷ 7 ∷ 1 ∷ [])
    ∷ (5 ∷ 1 ∷ 7 ∷ 2 ∷ [])
    ∷ (5 ∷ 0 ∷ 7 ∷ 3 ∷ [])
    ∷ []
unfolding starting
two-agents = refl

pub of_them : (inputs_of with_fixed ≡ 3) × (fixed_total with_fixed ≡ 13) × (length (starts with_fixed 2) ≡ binomial 4 2) × (binomial 4 2 ≡ 6)
unfolding starting
of_them = (refl, refl, refl, refl)

-- Twelve agents on eight inputs; on one input there is one start, without inputs none but where no agent is to be spread.
pub numbers : (binomial 19 7 ≡ 50388) × (starts (fixing majority (eqb 1) []) 3 ≡ (0 ∷ 3 ∷ 0 ∷ 0 ∷ []) ∷ [])
    × (length (starts (fixing majority (eqb 4) []) 3) ≡ 0) × (length (starts (fixing majority (eqb 4) []) 0) ≡ 1)
unfolding starting
numbers = (refl, refl, refl, refl)

-- Three agents of majority, as sample P8 has them.
pub to_rest : (rest_numbers majority two_layers vote_weights (2 ∷ 1 ∷ 0 ∷ 0 ∷ []) ≡ 0 ∷ 1 ∷ [])
    × (rest_of majority two_layers vote_weights (2 ∷ 1 ∷ 0 ∷ 0 ∷ []) ≡ 1 ∷ 0 ∷ 2 ∷ 0 ∷ [])
unfolding starting
to_rest = (refl, refl)
