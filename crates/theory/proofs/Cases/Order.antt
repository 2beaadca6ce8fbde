-- Cases of the lexicographic order, computed.
use Rattle.std.specs.Prelude.{◌≡◌, refl, true, false, [], ◌∷◌}
use Rattle.theory.specs.Order.{lex_less}

-- The first number that differs decides, whatever follows.
first_decides : lex_less (0 ∷ 9 ∷ 9 ∷ []) (1 ∷ 0 ∷ 0 ∷ []) ∷ lex_less (1 ∷ 0 ∷ 9 ∷ []) (1 ∷ 1 ∷ 0 ∷ []) ∷ lex_less (1 ∷ 2 ∷ 3 ∷ []) (1 ∷ 2 ∷ 4 ∷ [])
    ∷ lex_less (1 ∷ 0 ∷ 0 ∷ []) (0 ∷ 9 ∷ 9 ∷ []) ∷ lex_less (1 ∷ 1 ∷ 0 ∷ []) (1 ∷ 0 ∷ 9 ∷ []) ∷ lex_less (1 ∷ 2 ∷ 4 ∷ []) (1 ∷ 2 ∷ 3 ∷ []) ∷ []
    ≡ true ∷ true ∷ true ∷ false ∷ false ∷ false ∷ []
unfolding lex_less
first_decides = refl

-- No list is before itself, and a list that ends is before those that go on.
ends : lex_less [] [] ∷ lex_less (1 ∷ 2 ∷ []) (1 ∷ 2 ∷ []) ∷ lex_less (1 ∷ []) (1 ∷ 0 ∷ []) ∷ lex_less (1 ∷ 0 ∷ []) (1 ∷ []) ∷ lex_less (2 ∷ []) (1 ∷ 0 ∷ []) ∷ []
    ≡ false ∷ false ∷ true ∷ false ∷ false ∷ []
unfolding lex_less
ends = refl
