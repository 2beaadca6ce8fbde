-- What the functions of the page answer, beside the definitions of Page.
use Rattle.std.specs.Prelude.{◌≡◌, List, ◌++◌, ℕ, ◌*◌, take, drop, Result, Ok, Err}
use Rattle.theory.specs.Judge.{judge}
use Rattle.theory.specs.Machine.{run, reply, counts_after}
use Rattle.format.specs.Format.{protocol_in, layers_in}
use Rattle.format.specs.declared.Header.{Header}
use Rattle.refusals.specs.declared.Refusal.{Refusal}
use Rattle.refusals.specs.Refusal.{refusal}
use Rattle.page.specs.Page.{result_of, page_tests, each_part}

-- What tests 32 and 33 find.
unfoldable pub page_tested : ℕ → ℕ → ℕ → Result (Unit {0}) Refusal
page_tested n counts results = judge (λ m k. Err (refusal m k)) (Ok tt) (page_tests n counts results)

-- The run of counts d on a docket of sound shape, with bytes b and header h: the counts that it leaves, and its two results.
module _ (b : List ℕ) (h : Header) (limit : ℕ) (d : List ℕ) where
  unfoldable pub run_counts : List ℕ
  run_counts = counts_after (protocol_in b h) (layers_in b h) d (run limit)

  unfoldable pub run_result : List ℕ
  run_result = result_of (reply (protocol_in b h) (layers_in b h) d (run limit))

-- A buffer whose parts have m numbers each, with ys in place of part g.
unfoldable pub with_part : ℕ → List ℕ → ℕ → List ℕ → List ℕ
with_part m xs g ys = take (g * m) xs ++ (ys ++ drop m (drop (g * m) xs))

-- A buffer, old before, whose parts have m numbers each, after the first g groups of the counts c: their parts hold what f makes
-- of them.
unfoldable pub up_to : (List ℕ → List ℕ) → ℕ → List ℕ → ℕ → List ℕ → ℕ → List ℕ
up_to f m old n c g = each_part f n c g ++ drop (g * m) old

-- The first g groups of the counts c have been run, on a docket of sound shape; the results were old.
pub record RunUpTo (b : List ℕ) (h : Header) (limit : ℕ) (c old : List ℕ) (g : ℕ) (counts results : List ℕ) : Type 0 where
  pub counts_are : counts ≡ up_to (run_counts b h limit) h.sizes.states c h.sizes.states c g
  pub results_are : results ≡ up_to (run_result b h limit) 2 old h.sizes.states c g
