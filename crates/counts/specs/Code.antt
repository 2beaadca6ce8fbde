-- What the functions on lent counts answer, beside theory's own definitions.
use Rattle.std.specs.Prelude.{Bool, true, false, cond, ◌&&◌, List, ℕ, ◌-◌, ◌≤◌, ltb, eqb, length, Option, Some, None, Result, Ok, Err}
use Rattle.theory.specs.Protocol.{Protocol, count}
use Rattle.theory.specs.Ladder.{Layers}
use Rattle.theory.specs.Machine.{is_within, chosen}
use Rattle.refusals.specs.declared.Refusal.{Refusal}
use Rattle.refusals.specs.Refusal.{refusal}
pub mod Laws

-- What the tests 20 and 21 find of counts c where there are n states.
unfoldable pub counts_test : ℕ → List ℕ → Result (Unit {0}) Refusal
counts_test n c = cond (eqb (length c) n) (cond (is_within c) (Ok tt) (Err (refusal 21 0))) (Err (refusal 20 0))

-- The rule that a run uses, if there is one: theory's `chosen` is the number of rules where there is none.
unfoldable pub chosen_of : Protocol → Layers → List ℕ → Option ℕ
chosen_of P L c = cond (ltb (chosen P L c) P.rules) (Some (chosen P L c)) None

-- How many agents in q an agent in p could meet: all, or, where p = q, all but itself; 0 where no agent is in p.
unfoldable pub partners_of : List ℕ → ℕ → ℕ → ℕ
partners_of c p q = elim (eqb p q) [ true ↦ count c p - 1 | false ↦ cond (ltb 0 (count c p)) (count c q) 0 ]

-- Whether p and q each hold an agent, or, where p = q, at least two: theory's enabled, of a before pair.
abbrev pub pair_enabled : List ℕ → ℕ → ℕ → Bool
pair_enabled c p q = elim (eqb p q) [ true ↦ ltb 1 (count c p) | false ↦ ltb 0 (count c p) && ltb 0 (count c q) ]

-- Whether state s holds an agent.
abbrev pub is_occupied : List ℕ → ℕ → Bool
is_occupied c s = ltb 0 (count c s)

-- No count is above m.
unfoldable pub Most : ℕ → List ℕ → Type 0
Most m c = (s : ℕ) → count c s ≤ m
