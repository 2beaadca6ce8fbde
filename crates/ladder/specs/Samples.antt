-- What tests 9 and 10 and the sum of the spreads say of the dockets of document 01, by computation.
use Rattle.std.specs.Prelude.{◌≡◌, refl, not, List, [], ◌∷◌, ℕ, set, Option, Some, None}
use Rattle.theory.specs.Below.Ends.{first_where}
use Rattle.theory.specs.Ladder.{lowers_at, handover_at, spreads}
use Rattle.format.specs.Format.{header_of, protocol_in, layers_in, weight_in}
use Rattle.theory.proofs.Unfold.{laddering}
use Rattle.format.specs.Samples.{reading, broadcast, majority}

-- The values of lowering_fault, handover_fault and spread_sum on the sections of a docket.
abbrev values : List ℕ → Option ℕ × Option ℕ × ℕ
values b =
    let h = header_of b in
    let P = protocol_in b h in
    let L = layers_in b h in (
      first_where P.rules (λ r. not (lowers_at P L (weight_in b h) r)),
      first_where P.rules (λ s. not (handover_at P L s)),
      spreads P L (weight_in b h),
    )

-- The majority docket with layers and weights exchanged.
abbrev exchanged : List ℕ
exchanged =
    set (set (set (set
    (set (set (set (set (set (set (set (set majority
    48 0) 52 0) 56 1) 60 0) 64 1) 68 1) 72 0) 76 1)
    32 1) 37 1) 42 0) 47 0

-- Dockets, each with its three values. A docket of which no rule is named passes the test.
abbrev pub samples : List (List ℕ × (Option ℕ × Option ℕ × ℕ))
samples =
    (broadcast, (None, None, 1))
    ∷ (set broadcast 31 0, (Some 0, None, 0))
    ∷ (majority, (None, None, 2))
    ∷ (exchanged, (None, Some 0, 2))
    ∷ []

abbrev answers : List (List ℕ × (Option ℕ × Option ℕ × ℕ)) → List (Option ℕ × Option ℕ × ℕ)
answers [] = []
answers (c ∷ cs) = values c.0 ∷ answers cs

abbrev expected : List (List ℕ × (Option ℕ × Option ℕ × ℕ)) → List (Option ℕ × Option ℕ × ℕ)
expected [] = []
expected (c ∷ cs) = c.1 ∷ expected cs

samples_right : answers samples ≡ expected samples
unfolding laddering reading first_where
samples_right = refl
