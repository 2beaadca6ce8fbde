-- What each machine call answers (document 01, "What a call says"): tests 1 to 8 of the docket first, then 20 and 21 of
-- the counts, then its own refusals.
use Rattle.std.specs.Prelude.{Bool, cond, List, ℕ, ltb, Option, Some, None, Result, Ok, Err}
use Rattle.theory.specs.Protocol as theory
use Rattle.theory.specs.Protocol.{Protocol, terminal, output_of, start_test}
use Rattle.theory.specs.Pairs.{pairs}
use Rattle.theory.specs.Machine.{Call, Reply, refused, admit, reply, counts_after}
use Rattle.format.specs.Format.{protocol_in, layers_in}
use Rattle.refusals.specs.declared.Refusal.{Refusal}
use Rattle.refusals.specs.Refusal.{refusal}
use Rattle.shape.specs.Shape.{shape_of, by_shape}

-- The verdict: 0, 1, or None for mixed.
abbrev pub verdict_as : theory.Output → Option Bool
verdict_as (theory.agreed v) = Some v
verdict_as theory.mixed = None

-- ---- Calls that change nothing, on counts c of a docket whose protocol is P

module _ (P : Protocol) (c : List ℕ) where
  -- The start test: 22 at the first state whose count is against the start rule.
  unfoldable pub start_answer : Result (Unit {0}) Refusal
  start_answer =
      admit P c (λ n. Err (refusal n 0))
      (cond (ltb (start_test P c) P.states) (Err (refusal 22 (start_test P c))) (Ok tt))

  -- The number of pairs of workers that could make the meeting of rule number r, 0 where it cannot act (document 02, Job 6): 23 where
  -- r names no rule.
  unfoldable pub pairs_answer : ℕ → Result ℕ Refusal
  pairs_answer r =
      admit P c (λ n. Err (refusal n 0)) (cond (ltb r P.rules) (Ok (pairs P c r)) (Err (refusal 23 r)))

  -- Whether the counts are a standstill.
  unfoldable pub terminal_answer : Result Bool Refusal
  terminal_answer = admit P c (λ n. Err (refusal n 0)) (Ok (terminal P c))

  -- The verdict of the counts, at a standstill or not.
  unfoldable pub verdict_answer : Result (Option Bool) Refusal
  verdict_answer = admit P c (λ n. Err (refusal n 0)) (Ok (verdict_as (output_of P c)))

-- ---- Calls on counts c of a docket with bytes b

module _ (b c : List ℕ) where
  unfoldable pub start_of : Result (Unit {0}) Refusal
  start_of = by_shape Err (λ h. start_answer (protocol_in b h) c) (shape_of b)

  unfoldable pub pairs_of : ℕ → Result ℕ Refusal
  pairs_of r = by_shape Err (λ h. pairs_answer (protocol_in b h) c r) (shape_of b)

  unfoldable pub terminal_of : Result Bool Refusal
  terminal_of = by_shape Err (λ h. terminal_answer (protocol_in b h) c) (shape_of b)

  unfoldable pub verdict_of : Result (Option Bool) Refusal
  verdict_of = by_shape Err (λ h. verdict_answer (protocol_in b h) c) (shape_of b)

  -- What a step or run call says, and the counts that it leaves: through theory's definitions, on which demand 3 rests.
  unfoldable pub reply_of : Call → Reply
  reply_of x = by_shape (λ r. refused r.number r.place) (λ h. reply (protocol_in b h) (layers_in b h) c x) (shape_of b)

  unfoldable pub counts_of : Call → List ℕ
  counts_of x = by_shape (λ _. c) (λ h. counts_after (protocol_in b h) (layers_in b h) c x) (shape_of b)
