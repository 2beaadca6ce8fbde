-- The first that passes below a bound, where there is one, the ends of what passes, and tables; the contracts of the code speak of them.
use Rattle.std.specs.Prelude.{Bool, true, false, cond, List, [], ◌∷◌, ℕ, zero, suc, ◌+◌, ◌-◌, ltb, Option, Some, None}
use Rattle.theory.specs.Below.{first_below}

-- The lowest number below n that passes, if there is one.
unfoldable pub first_where : ℕ → (ℕ → Bool) → Option ℕ
first_where n f = cond (ltb (first_below n f) n) (Some (first_below n f)) None

-- The lowest number from m on, and below n, that passes, or n; where m is at most n.
unfoldable pub first_from : ℕ → ℕ → (ℕ → Bool) → ℕ
first_from m n f = m + first_below (n - m) (λ k. f (m + k))

-- One past the greatest number below n that passes, or 0.
unfoldable pub end_below : ℕ → (ℕ → Bool) → ℕ
end_below zero f = zero
end_below (suc n) f = elim (f n) [ true ↦ suc n | false ↦ end_below n f ]

-- The list f 0, .., f (n - 1).
unfoldable pub table : ℕ → (ℕ → ℕ) → List ℕ
table zero f = []
table (suc n) f = f 0 ∷ table n (λ k. f (suc k))
