-- A refusal (document 01, "What a call says"): the number of the test that refuses, and the place at which it does.
use Rattle.std.specs.Prelude.{ℕ}
use Rattle.refusals.specs.declared.Refusal.{Refusal}

abbrev pub refusal : ℕ → ℕ → Refusal
refusal n k = record { number = n; place = k }
