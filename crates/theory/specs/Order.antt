-- The order in which rules stand (document 02, Job 5), as an order of lists of numbers.
use Rattle.std.specs.Prelude.{◌≡◌, Bool, true, false, ◌||◌, ◌&&◌, List, [], ◌∷◌, ℕ, suc, ◌<◌, ltb, eqb}

-- The lexicographic order: the first number in which the two lists differ decides; a list that ends there is the first.
unfoldable pub lex_less : List ℕ → List ℕ → Bool
lex_less [] [] = false
lex_less [] (y ∷ ys) = true
lex_less (x ∷ xs) [] = false
lex_less (x ∷ xs) (y ∷ ys) = ltb x y || eqb x y && lex_less xs ys

-- Of the n lists f 0, .., f (n - 1), each is before the next.
abbrev pub Ascending : (ℕ → List ℕ) → ℕ → Type 0
Ascending f n = (k : ℕ) → suc k < n → lex_less (f k) (f (suc k)) ≡ true
