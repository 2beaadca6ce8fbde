-- The code's returns follow the definition of the sheet. Assumes nothing.
use Rattle.std.specs.Prelude.{◌≡◌, Bool, true, false, ℕ, zero, suc, ◌-◌, ◌≤◌, ltb, length, take, drop, replicate, Result, Ok, Err, IsOk}
use Rattle.std.proofs.Math.Path.{refl, sym, ap}
use Rattle.std.proofs.Common.{◌∙◌, subst, arith, ltb-false, le-ltb, length-take, true≢false}
use mathlib.Core.List.{List, [], ◌++◌}
use Rattle.std.proofs.Math.Nat.{sub-zero, suc-sub-suc}
use Rattle.std.proofs.lemmas.List.{length-replicate}
use Rattle.theory.proofs.Bool.Laws.{or_none, or_fails}
use Rattle.theory.proofs.Judge.Laws.{only_hit, only_pass, judge_done}
use Rattle.theory.specs.Protocol.{Protocol}
use Rattle.theory.specs.Ladder.{Layers}
use Rattle.theory.specs.Starts.{inputs_of}
use Rattle.format.specs.Format.{header_of, sections_of, protocol_of, protocol_in, layers_in, weight_in}
use Rattle.format.specs.declared.Header.{Header}
use Rattle.refusals.specs.declared.Refusal.{Refusal}
use Rattle.refusals.specs.Refusal.{refusal}
use Rattle.shape.specs.Shape.{outside}
use Rattle.shape.specs.declared.sound.Docket.{Docket}
use Rattle.shape.proofs.SoundLaws.{docket_sound}
use Rattle.checker.specs.Check.{sections_check, check_of, on_accepted}
use Rattle.checker.specs.Check.Laws.{certified_laddered, certified_check, accepted_shape, accepted_tests, passes_laddered}
use Rattle.checker.specs.declared.Summary.{Summary}
use Rattle.totals.specs.Code.{Runs}
use Rattle.totals.specs.Totals.{totals_of, first_most, beyond, Allowed, refused_sheet, full_sheet, sheet_in, sheet_of}
use Rattle.totals.specs.declared.Totals.{Totals}
use Rattle.totals.specs.declared.Sheet.{Sheet}

-- ---- 64 counts

pub part_long : (k e : ℕ) → e ≡ k → k ≤ 64 → length (take e (replicate {A = ℕ} 64 0)) ≡ k
part_long k e h l = ap (λ m. length (take m (replicate {A = ℕ} 64 0))) h ∙ length-take k (replicate 64 0) ∙ omega (arith, length-replicate {A = ℕ} 64 0)

drop_zeros : (n k : ℕ) → drop k (replicate {A = ℕ} n 0) ≡ replicate (n - k) 0
drop_zeros n zero = ap (λ m. replicate m 0) (sym (sub-zero n))
drop_zeros zero (suc k) = ap (λ m. replicate m 0) (let z : 0 ≡ 0 - suc k = omega arith in z)
drop_zeros (suc n) (suc k) = drop_zeros n k ∙ ap (λ m. replicate m 0) (sym (suc-sub-suc n k))

pub sheet_full : (P : Protocol) (L : Layers) (w : ℕ → ℕ → ℕ) (n e : ℕ) (t : Totals) (f : List ℕ) → e ≡ P.states → t ≡ totals_of P L w n
    → f ≡ first_most P L w n → ◌≡◌ {A = Sheet} (record { tallied = Ok t; first = f ++ drop e (replicate 64 0) }) (full_sheet P L w n)
sheet_full P L w n e t f he ht hf = rw (he, ht, hf, drop_zeros 64 P.states)

-- ---- Test 34

module _ (P : Protocol) (n : ℕ) where
  pub beyond_none : beyond (inputs_of P) n ≡ false → Allowed P n
  beyond_none u =
      let o = or_fails (ltb 8 (inputs_of P)) (outside 2 12 n) u in
      let p = or_fails (ltb n 2) (ltb 12 n) o.1 in
      record { inputs = ltb-false 8 (inputs_of P) o.0; least = ltb-false n 2 p.0; most = ltb-false 12 n p.1 }

  pub none_beyond : Allowed P n → beyond (inputs_of P) n ≡ false
  none_beyond g =
      or_none (ltb 8 (inputs_of P)) (outside 2 12 n)
      (le-ltb 8 (inputs_of P) g.inputs)
      (or_none (ltb n 2) (ltb 12 n) (le-ltb n 2 g.least) (le-ltb 12 n g.most))

module _ (P : Protocol) (L : Layers) (w : ℕ → ℕ → ℕ) (n : ℕ) (u : Bool) (e : beyond (inputs_of P) n ≡ u) where
  abbrev refuse : ℕ → ℕ → Sheet
  refuse m k = refused_sheet (refusal m k)

  pub in_refused : u ≡ true → sheet_in P L w n ≡ refused_sheet (refusal 34 0)
  unfolding sheet_in
  in_refused t = sym (only_hit refuse (full_sheet P L w n) (refuse 34 0) 34 (beyond (inputs_of P) n) (beyond (inputs_of P) n) [] refl (e ∙ t) refl)

  pub in_full : u ≡ false → sheet_in P L w n ≡ full_sheet P L w n
  unfolding sheet_in
  in_full t = sym (only_pass refuse (full_sheet P L w n) (full_sheet P L w n) 34 (beyond (inputs_of P) n) (beyond (inputs_of P) n) [] refl (e ∙ t) (judge_done _ _ _ refl))

-- What the code makes of it: i is how many inputs there are, by the states section.
module _ (b : List ℕ) (h : Header) (n : ℕ) (states : List ℕ) (here : states ≡ (sections_of b h).states) (i : ℕ)
    (hi : i ≡ inputs_of (protocol_of h.sizes states [])) where
  abbrev P : Protocol
  P = protocol_in b h

  inputs_are : i ≡ inputs_of P
  unfolding inputs_of
  inputs_are = hi ∙ ap (λ x. inputs_of (protocol_of h.sizes x [])) here

  test_is : beyond (inputs_of P) n ≡ beyond i n
  test_is = ap (λ k. beyond k n) (sym inputs_are)

  pub code_refused : (s : Sheet) → beyond i n ≡ true → s ≡ refused_sheet (refusal 34 0) → s ≡ sheet_in P (layers_in b h) (weight_in b h) n
  code_refused s u g = g ∙ sym (in_refused P (layers_in b h) (weight_in b h) n (beyond i n) test_is u)

  pub code_full : (s : Sheet) → beyond i n ≡ false → s ≡ full_sheet P (layers_in b h) (weight_in b h) n → s ≡ sheet_in P (layers_in b h) (weight_in b h) n
  code_full s u g = g ∙ sym (in_full P (layers_in b h) (weight_in b h) n (beyond i n) test_is u)

  pub code-allowed : beyond i n ≡ false → Allowed P n
  code-allowed u = beyond_none P n (test_is ∙ u)

-- ---- The check

-- The sheet of the bytes b, whose check accepts or refuses.
module _ (b : List ℕ) where
  pub runs_accepted : (f : Summary) → check_of b ≡ Ok f → Runs b (header_of b)
  runs_accepted f e =
      let (h, sound, rest) = accepted_shape b f e in
      subst (Runs b) sound.header
      (record { sound = sound; ladder = passes_laddered b h sound (accepted_tests h.sizes (sections_of b h) f rest) })

  module _ (n : ℕ) (s : Sheet) where
    abbrev accepted : Sheet
    accepted = let h = header_of b in sheet_in (protocol_in b h) (layers_in b h) (weight_in b h) n

    pub sheet_accepted : IsOk (check_of b) → s ≡ accepted → s ≡ sheet_of b n
    unfolding sheet_of
    sheet_accepted = go (check_of b)
      where
        go : (x : Result Summary Refusal) → IsOk x → s ≡ accepted → s ≡ on_accepted refused_sheet accepted x
        go (Ok f) k g = g
        go (Err r) k g = absurd (true≢false (sym k))

    pub sheet_refused : (r : Refusal) → check_of b ≡ Err r → s ≡ refused_sheet r → s ≡ sheet_of b n
    unfolding sheet_of
    sheet_refused r u g = g ∙ sym (ap (on_accepted refused_sheet accepted) u)

-- The docket d of these bytes.
module _ (d : Docket) (b : List ℕ) (q : d.bytes.now ≡ b) where
  -- Its header is that of the bytes.
  pub docket_sheet : (n : ℕ) (s : Sheet) → IsOk (check_of b)
      → s ≡ sheet_in (protocol_in d.bytes.now d.header) (layers_in d.bytes.now d.header) (weight_in d.bytes.now d.header) n → s ≡ sheet_of b n
  docket_sheet n s k g =
      let same : d.header ≡ header_of b = (docket_sound d).header ∙ ap header_of q in
      sheet_accepted b n s k (rw (q, same) at g)

  -- What tests 9 to 13 answer.
  module _ (a : Result Summary Refusal) (e : a ≡ sections_check d.header.sizes (sections_of d.bytes.now d.header)) where
    pub runs_certified : (f : Summary) → a ≡ Ok f → Runs d.bytes.now d.header
    runs_certified f u = record { sound = docket_sound d; ladder = certified_laddered d a f e u }

    pub check_accepts : (f : Summary) → a ≡ Ok f → IsOk (check_of b)
    check_accepts f u = rw (certified_check d b a e q ∙ u) refl

    pub check_refuses : (r : Refusal) → a ≡ Err r → check_of b ≡ Err r
    check_refuses r u = certified_check d b a e q ∙ u
