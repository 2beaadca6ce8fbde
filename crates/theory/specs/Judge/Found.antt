-- What one test finds, as the code answers it.
use Rattle.std.specs.Prelude.{Bool, cond, ℕ, Option, Some, None, Result, Ok, Err}

-- What a test finds by its lowest bad place, where it has one: nothing, or the refusal of its number there.
abbrev pub at_place : {R : Type 0} → (ℕ → ℕ → R) → ℕ → Option ℕ → Result (Unit {0}) R
at_place refuse n (Some k) = Err (refuse n k)
at_place refuse n None = Ok tt

-- What a test finds that points at nothing.
abbrev pub where_bad : {R : Type 0} → (ℕ → ℕ → R) → ℕ → Bool → Result (Unit {0}) R
where_bad refuse n t = cond t (Err (refuse n 0)) (Ok tt)
