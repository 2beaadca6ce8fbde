-- Leaves and what test 11, the leaf rule and the remainder rule say of them, by computation.
use Rattle.std.specs.Prelude.{◌≡◌, refl, Bool, true, false, List, [], ◌∷◌, ◌++◌, ℕ, eqb, ltb, set}
use Rattle.theory.specs.Facts.{Facts, with_absent, with_present, with_at_most_one}
use Rattle.theory.specs.Leaf.{leaf_closes}
use Rattle.theory.specs.Remainder.{remainder_closes}
use Rattle.theory.proofs.Unfold.{closing}
use Rattle.format.specs.Samples.{reading}
use Rattle.format.specs.Format.{protocol_of, weights_of}
use Rattle.format.specs.declared.Sizes.{Sizes}
use Rattle.facts.specs.Code.{fresh_of}
use Rattle.leaf.specs.Leaf.{bad_leaf}

-- The majority table of document 01 with one leaf: AB to ab, Ab to Aa, Ba to Bb, ab to bb.
abbrev pub sizes : Sizes
sizes = record { version = 1; states = 4; rules = 4; layers = 2; nodes = 1; leaves = 1 }

abbrev pub rules : List ℕ
rules = 0 ∷ 1 ∷ 2 ∷ 3 ∷ 0 ∷ 0 ∷ 3 ∷ 0 ∷ 2 ∷ 0 ∷ 1 ∷ 2 ∷ 1 ∷ 3 ∷ 1 ∷ 2 ∷ 3 ∷ 3 ∷ 3 ∷ 1 ∷ []

-- Leaf 1 -1 0 0, -1 1 0 0.
abbrev pub leaf : List ℕ
leaf = 1 ∷ 0 ∷ 255 ∷ 255 ∷ 0 ∷ 0 ∷ 0 ∷ 0 ∷ 255 ∷ 255 ∷ 1 ∷ 0 ∷ 0 ∷ 0 ∷ 0 ∷ 0 ∷ []

-- End 1 has A present, end 2 has A absent.
abbrev pub without_b : Facts
without_b = with_absent (with_present (fresh_of 4 (λ s. ltb s 2) (λ _. false)) 1 (eqb 0)) 2 (eqb 0)

abbrev closes : Facts → List ℕ → Bool
closes F leaves = leaf_closes (protocol_of sizes (2 ∷ 3 ∷ 0 ∷ 1 ∷ []) rules) F (weights_of sizes leaves 0)

-- Document 01, P12: the leaf closes with B absent at end 1, and not without. With zeros for weights the sums are equal.
samples_close : closes (with_absent without_b 1 (eqb 1)) leaf ∷ closes without_b leaf ∷ closes (with_absent without_b 1 (eqb 1)) [] ∷ []
    ≡ true ∷ false ∷ false ∷ []
unfolding closing reading fresh_of
samples_close = refl

-- The same leaf by remainders, where A is at most one at end 1, where it is present, and B is absent at both ends: the sum is
-- 1, which is not 0 modulo 2 and modulo 7. It does not close where A is not known to be at most one, nor where A is absent at
-- end 1 too, nor with zeros for weights.
abbrev closes_modulo : ℕ → Facts → List ℕ → Bool
closes_modulo m F leaves = remainder_closes (protocol_of sizes (2 ∷ 3 ∷ 0 ∷ 1 ∷ []) rules) m F (weights_of sizes leaves 0)

abbrev one_a : Facts
one_a = with_absent (with_at_most_one (with_absent without_b 1 (eqb 1)) 1 (eqb 0)) 2 (eqb 1)

samples_modulo : closes_modulo 2 one_a leaf ∷ closes_modulo 7 one_a leaf ∷ closes_modulo 2 (with_absent (with_absent without_b 1 (eqb 1)) 2 (eqb 1)) leaf
    ∷ closes_modulo 2 (with_absent one_a 1 (eqb 0)) leaf ∷ closes_modulo 2 one_a [] ∷ []
    ≡ true ∷ true ∷ false ∷ false ∷ false ∷ []
unfolding closing reading fresh_of
samples_modulo = refl

-- Weights 10,000, 10,001, -10,000 and -10,001 at the last place.
abbrev last : ℕ → ℕ → Bool
last a b = bad_leaf sizes (set (set leaf 14 a) 15 b) 0

samples_limit : last 16 39 ∷ last 17 39 ∷ last 240 216 ∷ last 239 216 ∷ [] ≡ false ∷ true ∷ false ∷ true ∷ []
unfolding bad_leaf reading
samples_limit = refl

-- Of two leaves the second is bad: a weight of 10,001 there is not seen at leaf 0.
abbrev second : ℕ → Bool
second l = bad_leaf sizes (leaf ++ set (set leaf 14 17) 15 39) l

samples-second : second 0 ∷ second 1 ∷ [] ≡ false ∷ true ∷ []
unfolding bad_leaf reading
samples-second = refl

-- Weights of -10,000 at both ends, for every state: y1 + y2 is -20,000. Where all states are present at the start and hold
-- at most one agent at the ends, the upper sum is -80,000 and the lower sum, of eight weights, the same, so the leaf does
-- not close; where one of them is absent at an end, it does.
abbrev low : List ℕ → List ℕ
low rest = 240 ∷ 216 ∷ rest

abbrev lowest : List ℕ
lowest = low (low (low (low (low (low (low (low [])))))))

abbrev all : ℕ → Bool
all s = ltb s 4

abbrev single : Facts
single = with_at_most_one (with_at_most_one (with_present (fresh_of 4 all (λ _. false)) 0 all) 1 all) 2 all

samples-lowest : closes single lowest ∷ closes (with_absent single 2 (eqb 3)) lowest ∷ [] ≡ false ∷ true ∷ []
unfolding closing reading fresh_of
samples-lowest = refl
