-- Cases of ladders, spreads, layered lists and the rank.
use Rattle.std.specs.Prelude.{◌≡◌, refl, true, false, not, [], ◌∷◌, ℕ, ◌+◌, ◌*◌, ◌<◌}
use Rattle.std.proofs.Common.{arith, ltb-true}
use Rattle.theory.proofs.Bool.Laws.{is_false}
use Rattle.theory.specs.Below.{first_below}
use Rattle.theory.proofs.Below.Laws.{all_elim}
use Rattle.theory.specs.Protocol.{size, terminal, after, meetings}
use Rattle.theory.proofs.Cases.Protocol.{column, rows, broadcast, twins, majority, two_outcomes}
use Rattle.theory.specs.Ladder.{Layers, lowers_at, lowering, handover_at, handover, active, layered, spreads, rank}
use Rattle.theory.proofs.Unfold.{laddering}

-- All rules in one layer; the layers of majority in document 01; and these two exchanged.
abbrev pub one_layer : Layers
one_layer = record { count = 1; of = λ _. 0 }

abbrev pub two_layers : Layers
two_layers = record { count = 2; of = column (0 ∷ 0 ∷ 1 ∷ 1 ∷ []) }

abbrev pub exchanged : Layers
exchanged = record { count = 2; of = column (1 ∷ 1 ∷ 0 ∷ 0 ∷ []) }

-- Weights of broadcast and of twins; of majority in document 01; and others of majority, with spreads 2 and 3 and least
-- weights 3 and 1.
abbrev pub cast_weights : ℕ → ℕ → ℕ
cast_weights = rows ((1 ∷ 0 ∷ []) ∷ [])

abbrev pub vote_weights : ℕ → ℕ → ℕ
vote_weights = rows ((1 ∷ 1 ∷ 0 ∷ 1 ∷ []) ∷ (0 ∷ 0 ∷ 1 ∷ 0 ∷ []) ∷ [])

abbrev steep_weights : ℕ → ℕ → ℕ
steep_weights = rows ((5 ∷ 5 ∷ 3 ∷ 5 ∷ []) ∷ (1 ∷ 1 ∷ 4 ∷ 1 ∷ []) ∷ [])

-- Weights of two_outcomes.
abbrev pub outcome_weights : ℕ → ℕ → ℕ
outcome_weights = rows ((1 ∷ 0 ∷ 0 ∷ []) ∷ [])

-- With the weights 0, 0 lowering fails at rule 0.
pub P3 : first_below 1 (λ r. not (lowers_at broadcast one_layer (λ _ _. 0) r)) ≡ 0
unfolding laddering
P3 = refl

-- The rest bound is reached, and one meeting less does not end terminal.
pub tight : (lowering twins one_layer cast_weights ≡ true)
    × (size (2 ∷ 0 ∷ []) * spreads twins one_layer cast_weights ≡ 2)
    × (meetings twins (2 ∷ 0 ∷ []) (0 ∷ 1 ∷ []) ≡ 2)
    × (terminal twins (after twins (2 ∷ 0 ∷ []) (0 ∷ 1 ∷ [])) ≡ true)
    × (terminal twins (after twins (2 ∷ 0 ∷ []) (0 ∷ [])) ≡ false)
unfolding laddering
tight = (refl, refl, refl, refl, refl)

-- Each of the rules for one pair has to lower: with the weights 1 0 1 rules 0 and 2 of two_outcomes do, and rule 1 does not.
pub each_outcome : (lowering two_outcomes one_layer outcome_weights ≡ true)
    × (handover two_outcomes one_layer ≡ true)
    × (lowering two_outcomes one_layer (rows ((1 ∷ 0 ∷ 1 ∷ []) ∷ [])) ≡ false)
    × (first_below 3 (λ r. not (lowers_at two_outcomes one_layer (rows ((1 ∷ 0 ∷ 1 ∷ []) ∷ [])) r)) ≡ 1)
unfolding laddering
each_outcome = (refl, refl, refl, refl)

-- The ladder of majority passes; the rest bound of n agents is 2 n.
pub ladder_passes : (lowering majority two_layers vote_weights ≡ true) × (handover majority two_layers ≡ true) × (spreads majority two_layers vote_weights ≡ 2)
unfolding laddering
ladder_passes = (refl, refl, refl)

-- With layers and weights exchanged the handover fails at rule 0.
pub P10 : (lowering majority exchanged (rows ((0 ∷ 0 ∷ 1 ∷ 0 ∷ []) ∷ (1 ∷ 1 ∷ 0 ∷ 1 ∷ []) ∷ [])) ≡ true)
    × (first_below 4 (λ s. not (handover_at majority exchanged s)) ≡ 0)
unfolding laddering
P10 = (refl, refl)

-- With all four rules in one layer no weights pass.
pub P11 : (w : ℕ → ℕ → ℕ) → lowering majority one_layer w ≡ false
unfolding laddering
P11 w =
    is_false (lowering majority one_layer w)
    (λ h.
    let Ab : w 0 0 + w 0 2 < w 0 0 + w 0 3 = ltb-true (w 0 0 + w 0 2) (w 0 0 + w 0 3) (all_elim 4 (lowers_at majority one_layer w) h 1 (omega arith)) in
    let Ba : w 0 1 + w 0 3 < w 0 1 + w 0 2 = ltb-true (w 0 1 + w 0 3) (w 0 1 + w 0 2) (all_elim 4 (lowers_at majority one_layer w) h 2 (omega arith)) in
    omega arith)

-- A quiet layer may get an enabled rule while a lower one is active: layer 1 does, by a meeting of layer 0.
pub layer_not_kept : (active majority two_layers (2 ∷ 1 ∷ 0 ∷ 0 ∷ []) 1 ≡ false)
    × (layered majority two_layers (2 ∷ 1 ∷ 0 ∷ 0 ∷ []) (0 ∷ []) ≡ true)
    × (active majority two_layers (after majority (2 ∷ 1 ∷ 0 ∷ 0 ∷ []) (0 ∷ [])) 1 ≡ true)
unfolding laddering
layer_not_kept = (refl, refl, refl)

-- A layered list, in which 9 is no rule and rule 3 is not enabled; and one that is not layered, as rule 3 fires where
-- rule 1 is enabled.
pub lists : (layered majority two_layers (2 ∷ 1 ∷ 0 ∷ 0 ∷ []) (9 ∷ 3 ∷ 0 ∷ 1 ∷ []) ≡ true)
    × (layered majority two_layers (1 ∷ 0 ∷ 1 ∷ 1 ∷ []) (9 ∷ 3 ∷ []) ≡ false)
unfolding laddering
lists = (refl, refl)

-- The ranks of three configurations of 3 agents. The lowest layer with an enabled rule is layer 0 in the first: its
-- weight is 15, less 3 times 3, and 3 times the spread 3 of layer 1 is added. In the second it is layer 1: its weight is
-- 9, less 3. The third is terminal.
pub ranks : (lowering majority two_layers steep_weights ≡ true)
    × (spreads majority two_layers steep_weights ≡ 5)
    × (rank majority two_layers steep_weights (2 ∷ 1 ∷ 0 ∷ 0 ∷ []) ≡ 15)
    × (rank majority two_layers steep_weights (0 ∷ 1 ∷ 2 ∷ 0 ∷ []) ≡ 6)
    × (rank majority two_layers steep_weights (1 ∷ 0 ∷ 2 ∷ 0 ∷ []) ≡ 0)
unfolding laddering
ranks = (refl, refl, refl, refl, refl)
