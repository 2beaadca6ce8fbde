-- How a check judges (document 01, "What a call says"): it tries its tests in order, and a refusal's place is the lowest
-- that fits.
use Rattle.std.specs.Prelude.{◌≡◌, Bool, true, false, List, [], ◌∷◌, ◌++◌, ℕ, ◌<◌, ltb}
use Rattle.theory.specs.Below.{Clear, first_below}
pub mod Found

-- A test: the number of its refusal, how many places it has, and which of them are bad.
pub record Test : Type 0 where
  pub number : ℕ
  pub places : ℕ
  pub bad : ℕ → Bool

-- A test that points at nothing: its one place is 0.
abbrev pub only : ℕ → Bool → Test
only n t = record { number = n; places = 1; bad = λ _. t }

-- The lowest bad place of a test; `places` where none is bad.
abbrev pub place : Test → ℕ
place t = first_below t.places t.bad

-- The first test with a bad place refuses, with its number and that place; where there is none the check passes.
unfoldable pub judge : {A : Type 0} → (ℕ → ℕ → A) → A → List Test → A
judge refuse pass [] = pass
judge refuse pass (t ∷ ts) = elim (ltb (place t) t.places) [ true ↦ refuse t.number (place t) | false ↦ judge refuse pass ts ]

-- No place of any test is bad.
abbrev pub Passes : List Test → Type 0
Passes [] = Unit {0}
Passes (t ∷ ts) = Clear t.bad t.places × Passes ts

-- The refusal n, k is the first that fits: the tests before it have no bad place, its test has number n, and k is its lowest
-- bad place.
pub record FirstFits (ts : List Test) (n k : ℕ) : Type 0 where
  pub earlier : List Test
  pub test : Test
  pub later : List Test
  pub in_order : ts ≡ earlier ++ test ∷ later
  pub earlier_pass : Passes earlier
  pub number_is : test.number ≡ n
  pub within : k < test.places
  pub fits : test.bad k ≡ true
  pub lowest_place : Clear test.bad k
