-- Sample P11: majority with all four rules in one layer is refused by number 9, whatever the weights within their limits.
-- Assumes nothing.
use Rattle.refusals.specs.Refusal.{refusal}
use Rattle.std.specs.Prelude.{◌≡◌, Bool, false, not, List, [], ltb, Ok, Err}
use Rattle.std.proofs.Math.Path.{refl, sym, ap}
use Rattle.std.proofs.Common.{◌∙◌}
use Rattle.std.proofs.Math.Logic.{by_cases}
use Prim.Native.Nat.{ℕ, zero, suc, ◌+◌, ◌*◌, ◌/◌, ◌%◌, ◌≤◌, ◌<◌}
use native.Mathlib.Omega.{arith}
use Rattle.std.proofs.Math.Decide.{dec_lt}
use borrow.Author.Tests.{ltb-true, le-ltb, not-false}
use Rattle.theory.specs.Below.{any_below, first_below, Clear}
use Rattle.theory.proofs.Below.Scan.{first_clear}
use Rattle.theory.specs.Ladder.{lowers_at}
use Rattle.format.specs.Bytes.{le16, le32}
use Rattle.format.specs.Format.{header_of, sections_of, protocol_in, layers_in, weight_in}
use Rattle.format.specs.declared.Header.{Header}
use Rattle.theory.proofs.Judge.Laws.{judge_hit, passes-judge}
use Rattle.shape.specs.Shape.{by_shape, bad_state, repeats, out_of_order, bad_layer, shape_tests, header_shape, shape_of}
use Rattle.checker.specs.Check.{sections_check, check_of}
use Rattle.claims.specs.Dockets.{word, one_layer}

-- The bytes of a weight read as the weight.
reads : (w : ℕ) → w ≤ 1000000 → w % 256 + 256 * (w / 256 % 256) + 65536 * (w / 65536 % 256 + 256 * (w / 16777216 % 256)) ≡ w
reads w l = omega arith

-- A test none of whose places is bad.
none : (n : ℕ) (f : ℕ → Bool) → first_below n f ≡ n → Clear f n
none n f e = first_clear n f (omega arith)

module _ (x y z t : ℕ) (lx : x ≤ 1000000) (ly : y ≤ 1000000) (lz : z ≤ 1000000) (lt : t ≤ 1000000) where
  abbrev b : List ℕ
  b = one_layer x y z t

  abbrev h : Header
  h = header_of b

  -- No weight is too large.
  weights : any_below 4 (λ s. ltb 1000000 (le32 (word x (word y (word z (word t [])))) (4 * s))) ≡ false
  unfolding any_below le16 le32
  weights = rw (reads x lx, reads y ly, reads z lz, reads t lt, le-ltb 1000000 x lx, le-ltb 1000000 y ly, le-ltb 1000000 z lz, le-ltb 1000000 t lt)

  layer : Clear (bad_layer h.sizes (sections_of b h).rules (sections_of b h).layers) 1
  unfolding bad_layer any_below le16
  layer zero l = weights
  layer (suc k) l = absurd (omega arith)

  sound : shape_of b ≡ Ok h
  unfolding shape_of header_shape bad_state repeats out_of_order first_below any_below le16
  sound = passes-judge (λ n k. Err (refusal n k)) (Ok h) (shape_tests b h)
      (none _ _ refl, (none _ _ refl, (none _ _ refl, (none _ _ refl, (none _ _ refl, (none _ _ refl, (none _ _ refl, (none _ _ refl, (layer, tt)))))))))

  -- Rules 1 and 2 cannot both lower: one needs more weight of b than of a, the other less.
  fails : Clear (λ r. not (lowers_at (protocol_in b h) (layers_in b h) (weight_in b h) r)) 4 → ⊥
  unfolding lowers_at le16
  fails all =
      let w = weight_in b h 0 in
      let first : w 0 + w 2 < w 0 + w 3 = ltb-true _ _ (not-false _ (all 1 (omega arith))) in
      let second : w 1 + w 3 < w 1 + w 2 = ltb-true _ _ (not-false _ (all 2 (omega arith))) in
      omega arith

  rule : ℕ
  rule = first_below 4 (λ r. not (lowers_at (protocol_in b h) (layers_in b h) (weight_in b h) r))

  pub one_layer_lem : (k : ℕ) × (check_of b ≡ Err (refusal 9 k))
  unfolding check_of sections_check le16 rule
  one_layer_lem = (
    rule,
    ap (by_shape Err (λ k. sections_check k.sizes (sections_of b k))) sound
        ∙ sym (judge_hit (λ n k. Err (refusal n k)) _ (Err (refusal 9 rule)) _ _ rule refl
        (by_cases (dec_lt rule 4) (λ l. l) (λ g. absurd (fails (first_clear 4 _ (omega arith))))) refl),
  )
