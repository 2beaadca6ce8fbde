-- Dockets and what tests 1 to 8 say of them, by computation.
use Rattle.std.specs.Prelude.{◌≡◌, refl, List, [], ◌∷◌, ◌++◌, ℕ, take, set, Result, Ok, Err}
use Rattle.format.specs.Samples.{reading, broadcast, majority, two_outcomes, seeded, quorum}
use Rattle.theory.specs.Below.{first_below}
use Rattle.theory.specs.Order.{lex_less}
use Rattle.shape.specs.Shape.{nth, count_faults, bad_state, repeats, out_of_order, bad_layer, header_shape, shape_of}
use Rattle.format.specs.declared.Header.{Header}
use Rattle.refusals.specs.declared.Refusal.{Refusal}

-- The names that computed cases of tests 1 to 8 unfold.
unfoldable pub shaping : ℕ
unfolding reading lex_less shape_of header_shape bad_state repeats out_of_order bad_layer
shaping = 0

-- Number and place: 0, 0 for a sound shape.
abbrev pub said : Result Header Refusal → ℕ × ℕ
said (Ok h) = (0, 0)
said (Err r) = (r.number, r.place)

-- Majority with another rule 3, in layer 1. Rule 1, in layer 0, is 0 3 to 0 2.
abbrev other_rule : ℕ → ℕ → ℕ → ℕ → List ℕ
other_rule p q p' q' = set (set (set (set majority 43 p) 44 q) 45 p') 46 q'

-- Dockets, and edits of them at a few bytes, each with its number and place.
abbrev pub samples : List (List ℕ × (ℕ × ℕ))
samples =
    (broadcast, (0, 0))
    ∷ (take 98 broadcast, (1, 0))
    ∷ (take 23 broadcast, (1, 0))
    ∷ ([], (1, 0))
    ∷ (set broadcast 0 3, (2, 0))
    ∷ (set (set broadcast 0 0) 2 1, (2, 0))
    ∷ (set broadcast 2 1, (3, 0))
    ∷ (set broadcast 2 65, (3, 0))
    ∷ (set broadcast 5 2, (3, 1))
    ∷ (set broadcast 6 0, (3, 2))
    ∷ (set broadcast 6 17, (3, 2))
    ∷ (set broadcast 4 0, (3, 2))
    ∷ (set broadcast 8 0, (3, 3))
    ∷ (set broadcast 9 9, (3, 3))
    ∷ (set broadcast 10 129, (3, 4))
    ∷ (set broadcast 12 25, (4, 0))
    ∷ (set broadcast 14 27, (4, 1))
    ∷ (set broadcast 16 32, (4, 2))
    ∷ (set broadcast 18 40, (4, 3))
    ∷ (set broadcast 20 98, (4, 4))
    ∷ (set broadcast 10 1, (4, 5))
    ∷ (set broadcast 24 4, (5, 0))
    ∷ (set broadcast 25 7, (5, 1))
    ∷ (set (set broadcast 24 0) 25 1, (5, 2))
    ∷ (set broadcast 26 2, (6, 0))
    ∷ (set broadcast 29 2, (6, 0))
    ∷ (set broadcast 27 0, (0, 0))
    ∷ (set (set broadcast 26 1) 27 0, (6, 0))
    ∷ (set broadcast 28 0, (6, 0))
    ∷ (set broadcast 29 0, (6, 0))
    ∷ (set broadcast 30 1, (6, 0))
    ∷ (set (set (set broadcast 31 64) 32 66) 33 15, (0, 0))
    ∷ (set (set (set broadcast 31 65) 32 66) 33 15, (8, 0))
    ∷ (majority, (0, 0))
    ∷ (set majority 43 0, (0, 0))
    ∷ (set (set two_outcomes 35 1) 41 1, (6, 2))
    ∷ (set (set majority 33 0) 34 1, (0, 0))
    ∷ (set (set majority 42 0) 47 0, (8, 1))
    ∷ (set majority 78 16, (8, 1))
    ∷ (two_outcomes, (0, 0))
    ∷ (set two_outcomes 35 1, (7, 1))
    ∷ (set (set two_outcomes 35 1) 44 16, (7, 1))
    ∷ (set (set two_outcomes 38 1) 40 1, (7, 2))
    ∷ (set two_outcomes 38 1, (7, 2))
    ∷ (other_rule 0 3 0 2, (7, 3))
    ∷ (other_rule 0 3 0 1, (0, 0))
    ∷ (other_rule 0 3 1 2, (0, 0))
    -- Version 2: its states have three bytes, and fixed agents. 1,000 are 3 × 256 + 232.
    ∷ (seeded, (0, 0))
    ∷ (quorum, (0, 0))
    ∷ (set seeded 1 1, (2, 0))
    ∷ (set seeded 0 1, (4, 1))
    ∷ (set broadcast 0 2, (4, 1))
    ∷ (set seeded 24 4, (5, 0))
    ∷ (set seeded 33 4, (5, 3))
    ∷ (set (set seeded 25 232) 26 3, (0, 0))
    ∷ (set (set seeded 25 233) 26 3, (5, 0))
    ∷ (set (set seeded 28 233) 29 3, (5, 1))
    ∷ (set (set seeded 34 255) 35 255, (5, 3))
    ∷ (set (set (set seeded 27 4) 25 233) 26 3, (5, 0))
    ∷ (set (set (set seeded 24 5) 28 233) 29 3, (5, 0))
    ∷ (set seeded 27 0, (5, 4))
    ∷ (set (set (set seeded 27 0) 34 233) 35 3, (5, 3))
    ∷ (set seeded 36 4, (6, 0))
    -- Its rules are 0 0 1 3, 0 1 0 2 and 1 1 1 3 of layer 0, 0 3 0 2 of layer 1 and 1 2 1 3 of layer 2, in order. By each number
    -- in turn, layer, p, q, p', q', rule 2 does not come after rule 1.
    ∷ (set seeded 45 1, (14, 2))
    ∷ (set (set seeded 41 1) 46 0, (14, 2))
    ∷ (set (set (set seeded 42 2) 44 1) 46 0, (14, 2))
    ∷ (set (set (set seeded 43 1) 46 0) 48 0, (14, 2))
    ∷ (set (set (set (set seeded 44 3) 46 0) 48 0) 49 2, (14, 2))
    -- The same p, q and layer, and p' greater: in order.
    ∷ (set seeded 46 0, (0, 0))
    -- The first place is 1. In version 1 rules may stand as they like.
    ∷ (set seeded 37 2, (14, 1))
    ∷ (set two_outcomes 34 0, (0, 0))
    -- Test 14 is tried after 6 and 7, whatever their places, and before 8.
    ∷ (set (set seeded 37 2) 56 4, (6, 4))
    ∷ (set (set (set (set (set seeded 37 2) 56 0) 57 3) 58 0) 59 2, (7, 4))
    ∷ (set seeded 60 0, (14, 4))
    -- Rules equal in all four states are 7, next to each other too, of the same layer and of another.
    ∷ (set (set (set seeded 46 0) 48 0) 49 2, (7, 2))
    ∷ (set (set (set (set seeded 51 1) 52 1) 53 1) 54 3, (7, 3))
    ∷ []

abbrev answers : List (List ℕ × (ℕ × ℕ)) → List (ℕ × ℕ)
answers [] = []
answers (c ∷ cs) = said (shape_of c.0) ∷ answers cs

abbrev expected : List (List ℕ × (ℕ × ℕ)) → List (ℕ × ℕ)
expected [] = []
expected (c ∷ cs) = c.1 ∷ expected cs

samples_right : answers samples ≡ expected samples
unfolding shaping
samples_right = refl

-- ---- Test 3 at its limits

-- The first count outside its limits, 5 where there is none.
abbrev counted : ℕ → ℕ → ℕ → ℕ → ℕ → ℕ
counted s r l n k =
    first_below 5 (nth (count_faults (record { version = 1; states = s; rules = r; layers = l; nodes = n; leaves = k })))

-- All counts at their greatest and at their least pass; each is refused one further on.
limits_right : counted 64 256 16 2048 128 ∷ counted 2 0 0 1 0 ∷ counted 2 1 1 1 0 ∷ []
    ++ counted 65 256 16 2048 128 ∷ counted 1 0 0 1 0 ∷ []
    ++ counted 64 257 16 2048 128 ∷ counted 64 257 0 2048 128 ∷ []
    ++ counted 64 256 17 2048 128 ∷ counted 64 1 0 2048 128 ∷ counted 64 0 1 2048 128 ∷ []
    ++ counted 64 256 16 2049 128 ∷ counted 64 256 16 0 128 ∷ []
    ++ counted 64 256 16 2048 129 ∷ []
    ≡ 5 ∷ 5 ∷ 5 ∷ 0 ∷ 0 ∷ 1 ∷ 1 ∷ 2 ∷ 2 ∷ 2 ∷ 3 ∷ 3 ∷ 4 ∷ []
unfolding reading
limits_right = refl
