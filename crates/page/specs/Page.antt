-- The call that runs the groups of a page (document 02, Job 8). It is lent the counts of the groups behind each other and two
-- results for each group, and runs each group within its own part of the counts, which document 01 calls its stretch.
use Rattle.std.specs.Prelude.{not, ◌||◌, List, [], ◌∷◌, ◌++◌, ℕ, zero, suc, ◌+◌, ◌*◌, ◌/◌, ◌%◌, eqb, length, take, drop, Result, Ok, Err}
use Rattle.theory.specs.Bool.{bit}
use Rattle.theory.specs.Judge.{Test, only, judge}
use Rattle.theory.specs.Machine.{run, Reply, stepped, ran, refused}
use Rattle.format.specs.Format.{header_of}
use Rattle.refusals.specs.declared.Refusal.{Refusal}
use Rattle.refusals.specs.Refusal.{refusal}
use Rattle.shape.specs.Shape.{shape_of, by_shape}
use Rattle.machine.specs.Calls.{reply_of, counts_of}

-- ---- Groups

-- Part g, from 0 on, of n numbers each. Of the counts, where there are n states, this is group g.
abbrev pub part_at : ℕ → List ℕ → ℕ → List ℕ
part_at n c g = take n (drop (g * n) c)

-- What f makes of each of the first g parts, behind each other.
unfoldable pub each_part : (List ℕ → List ℕ) → ℕ → List ℕ → ℕ → List ℕ
each_part f n c zero = []
each_part f n c (suc g) = each_part f n c g ++ f (part_at n c g)

-- The two results of a group whose run says this: the number of its refusal, or 0; and its steps, doubled, plus 1 where it
-- rests, or 0 where it is refused. No run says `stepped`.
abbrev pub result_of : Reply → List ℕ
result_of stepped = 0 ∷ 0 ∷ []
result_of (ran n rests) = 0 ∷ (2 * n + bit rests) ∷ []
result_of (refused n place) = n ∷ 0 ∷ []

-- ---- What the call answers

-- Tests 32 and 33, where there are n states and the counts and the results are so many numbers: the counts are no whole number
-- of groups, or none; the results are not two numbers for each group.
abbrev pub page_tests : ℕ → ℕ → ℕ → List Test
page_tests n counts results =
    only 32 (eqb counts 0 || not (eqb (counts % n) 0))
    ∷ only 33 (not (eqb results (2 * (counts / n))))
    ∷ []

-- The answer, for a docket with bytes b, counts c and results r: tests 1 to 8 first, once for all groups; then 32, then 33.
unfoldable pub page_of : List ℕ → List ℕ → List ℕ → Result (Unit {0}) Refusal
page_of b c r =
    by_shape Err (λ h. judge (λ n k. Err (refusal n k)) (Ok tt) (page_tests h.sizes.states (length c) (length r))) (shape_of b)

-- ---- What the call leaves

-- What f makes of the groups of the counts c, behind each other; used only where the call is done, so the header has passed.
abbrev pub by_groups : List ℕ → List ℕ → (List ℕ → List ℕ) → List ℕ
by_groups b c f = let n = (header_of b).sizes.states in each_part f n c (length c / n)

-- What a buffer holds after this answer: what is made of the groups or, where the call is refused, what it held before.
abbrev pub unless_refused : List ℕ → List ℕ → Result (Unit {0}) Refusal → List ℕ
unless_refused old new (Ok t) = new
unless_refused old new (Err r) = old

module _ (b c : List ℕ) (limit : ℕ) (r : List ℕ) where
  -- The counts after the call: each group as the run call with this limit leaves it, on its counts alone.
  unfoldable pub counts_after_page : List ℕ
  counts_after_page = unless_refused c (by_groups b c (λ d. counts_of b d (run limit))) (page_of b c r)

  -- The results after the call: for each group what this run call says.
  unfoldable pub results_after_page : List ℕ
  results_after_page = unless_refused r (by_groups b c (λ d. result_of (reply_of b d (run limit)))) (page_of b c r)
