-- Laws for the functions of the writer. Assumes nothing.
use Rattle.std.specs.Prelude.{◌≡◌, Bool, true, false, not, ◌||◌, ℕ, zero, suc, ◌+◌, ◌*◌, ◌/◌, ◌%◌, ◌-◌, ◌≤◌, ◌<◌, ltb, eqb, Option, Some, None, Result, Ok, Err}
use Rattle.std.proofs.Math.Path.{refl, sym, ap, subst}
use Rattle.std.proofs.Common.{◌∙◌, mul_comm, arith, eqb-true, eq-eqb, ne_eqb, lt-ltb, le-ltb, ltb-true, ltb-false, length-append, drop-drop}
use mathlib.Core.List.{List, [], ◌∷◌, ◌++◌, append_assoc, append-nil}
use Rattle.std.proofs.lemmas.Bool.{eqb-false}
use Rattle.std.proofs.lemmas.List.Edits.{paste_more}
use Rattle.std.proofs.Math.Arith.{mod-mul}
use Rattle.std.proofs.Math.ListN.{length, take, drop, set, get_or, length-take, length-drop, drop_of_length-le}
use Rattle.std.proofs.Math.Seq.{paste, take_all, take-length, take-append_seam, drop-append-add}
use Rattle.theory.proofs.Bool.Laws.{by_test}
use Rattle.theory.specs.Below.{Clear}
use Rattle.theory.specs.Below.Ends.{first_where}
use Rattle.theory.proofs.Below.Scan.{first_where-tells}
use Rattle.theory.specs.Judge.{Test, only, judge, Passes}
use Rattle.theory.specs.Judge.Found.{at_place, where_bad}
use Rattle.theory.proofs.Judge.Laws.{judge_done, only_refuses, only_passes, judge_map, judge-append}
use Rattle.format.specs.Format.{Sections, sections}
use Rattle.format.specs.declared.Sizes.{Sizes}
use Rattle.format.specs.declared.Header.{Header}
use Rattle.refusals.specs.declared.Refusal.{Refusal}
use Rattle.refusals.specs.Refusal.{refusal}
use Rattle.shape.specs.Shape.{nth, wrong_version, count_faults, section_tests}
use Rattle.shape.proofs.ShapeLaws.{tested_passes}
use Rattle.shape.specs.Sound.{Limits}
use Rattle.shape.proofs.SoundLaws.{limits}
use Rattle.shape.specs.Code.{tested_of}
use Rattle.leaf.specs.Leaf.{leaf_test}
use Rattle.writer.specs.Write.{lengths_of, not_whole, length_faults, sizes_for, sizes_in, offsets_for, header_for, put16, header_bytes, docket_of}
use Rattle.writer.specs.Write.{record_tests, room_test, part_tests, write_of, output_of, written}
use Rattle.writer.proofs.WriteLaws.{whole_records, total-length, docket_length, room_passes}
use Rattle.writer.specs.Code.{cut, cut_sizes, records_tested, parts_tested, behind, as_written, replaced}
use Rattle.writer.specs.declared.Lengths.{Lengths}

-- ---- Records of 4 bytes for each of s states

-- 4 s divides n just where 4 divides n and s divides n / 4.
four_divides : (s n : ℕ) → 0 < s → not (eqb (n % 4) 0) || not (eqb (n / 4 % s) 0) ≡ not (eqb (n % (4 * s)) 0)
four_divides s n h =
    let split : n % (4 * s) ≡ n / 4 % s * 4 + n % 4 = ap (λ m. n % m) (mul_comm 4 s) ∙ mod-mul n h (omega arith) in
    by_test (eqb (n % 4) 0)
    (λ e.
    let low : n % 4 ≡ 0 = eqb-true _ _ e in
    by_test (eqb (n / 4 % s) 0)
    (λ d. let high : n / 4 % s ≡ 0 = eqb-true _ _ d in rw (e, d, eq-eqb (n % (4 * s)) 0 (omega arith)))
    (λ d. let high : n / 4 % s ≡ 0 → ⊥ = eqb-false _ _ d in rw (e, d, ne_eqb (n % (4 * s)) 0 (λ z. high (omega arith)))))
    (λ e. let low : n % 4 ≡ 0 → ⊥ = eqb-false _ _ e in rw (e, ne_eqb (n % (4 * s)) 0 (λ z. low (omega arith))))

pub whole_split : (s n : ℕ) → 1 ≤ s → not (eqb (n % 4) 0) || not (eqb (n / 4 % s) 0) ≡ not_whole (4 * s) n
whole_split s n some = let wide : eqb (4 * s) 0 ≡ false = ne_eqb (4 * s) 0 (λ e. omega arith) in rw (wide) (four_divides s n some)

-- ---- Counts in 16 bits

cut_over : (m n : ℕ) → m < 65535 → ltb m (cut n) ≡ ltb m n
cut_over m n h =
    by_test (ltb m n)
    (λ e. lt-ltb m (cut n) (omega (arith, ltb-true m n e)) ∙ sym e)
    (λ e. le-ltb m (cut n) (omega (arith, ltb-false m n e)) ∙ sym e)

cut_under : (m n : ℕ) → m < 65535 → ltb (cut n) m ≡ ltb n m
cut_under m n h =
    by_test (ltb n m)
    (λ e. lt-ltb (cut n) m (omega (arith, ltb-true n m e)) ∙ sym e)
    (λ e. le-ltb (cut n) m (omega (arith, ltb-false n m e)) ∙ sym e)

cut_zero : (n : ℕ) → eqb (cut n) 0 ≡ eqb n 0
cut_zero n =
    by_test (eqb n 0)
    (λ e. let z : n ≡ 0 = eqb-true _ _ e in eq-eqb (cut n) 0 (omega arith) ∙ sym e)
    (λ e. let z : n ≡ 0 → ⊥ = eqb-false _ _ e in ne_eqb (cut n) 0 (λ d. z (omega arith)) ∙ sym e)

-- Test 3 says the same of counts in 16 bits.
pub cut-counts : (z : Sizes) → count_faults (cut_sizes z) ≡ count_faults z
cut-counts z =
    rw (
      cut_under 2 z.states (omega arith),
      cut_over 64 z.states (omega arith),
      cut_over 256 z.rules (omega arith),
      cut_over 16 z.layers (omega arith),
      cut_zero z.layers,
      cut_zero z.rules,
      cut_under 1 z.nodes (omega arith),
      cut_over 2048 z.nodes (omega arith),
      cut_over 128 z.leaves (omega arith),
    )

-- Counts within their limits are not cut.
pub cut_same : (z : Sizes) → Limits z → cut_sizes z ≡ z
cut_same z L =
    let s : cut z.states ≡ z.states = omega (arith, L.states_most) in
    let r : cut z.rules ≡ z.rules = omega (arith, L.rules_most) in
    let l : cut z.layers ≡ z.layers = omega (arith, L.layers_most) in
    let n : cut z.nodes ≡ z.nodes = omega (arith, L.nodes_most) in
    let k : cut z.leaves ≡ z.leaves = omega (arith, L.leaves_most) in
    rw (s, r, l, n, k)

-- ---- Tests behind tests

-- What tests find that are made by `?`.
abbrev Found : Type 0
Found = Result (Unit {0}) Refusal

abbrev judged : List Test → Found
judged = judge (λ n k. Err (refusal n k)) (Ok tt)

tested_append : (us vs : List Test) → behind (judged us) (judged vs) ≡ judged (us ++ vs)
tested_append us vs = judge_map (λ o. behind o (judged vs)) (λ n k. Err (refusal n k)) (Ok tt) us ∙ sym (judge-append (λ n k. Err (refusal n k)) (Ok tt) us vs)

-- The first tests found o, and r is answered.
module _ (us vs : List Test) (o r : Found) (e : o ≡ judged us) where
  passed_then : o ≡ Ok tt → r ≡ judged vs → r ≡ judged (us ++ vs)
  passed_then p h = h ∙ sym (ap (λ t. behind t (judged vs)) (sym e ∙ p)) ∙ tested_append us vs

  refused_else : (q : Refusal) → o ≡ Err q → r ≡ Err q → r ≡ judged (us ++ vs)
  refused_else q p h = h ∙ sym (ap (λ t. behind t (judged vs)) (sym e ∙ p)) ∙ tested_append us vs

-- Tests 5 to 8 found o.
module _ (z : Sizes) (states rules layers leaves : List ℕ) (o r : Found) (e : o ≡ tested_of z states rules layers) where
  abbrev found : Sections
  found = sections states rules layers [] leaves

  tests-found : o ≡ judged (section_tests z found)
  unfolding tested_of
  tests-found = e

  pub records_then : o ≡ Ok tt → r ≡ judged (leaf_test z leaves ∷ []) → r ≡ records_tested z states rules layers leaves
  unfolding records_tested
  records_then = passed_then (section_tests z found) (leaf_test z leaves ∷ []) o r tests-found

  pub records_else : (q : Refusal) → o ≡ Err q → r ≡ Err q → r ≡ records_tested z states rules layers leaves
  unfolding records_tested
  records_else = refused_else (section_tests z found) (leaf_test z leaves ∷ []) o r tests-found

-- ---- All tests

err_not_ok : (q : Refusal) → ◌≡◌ {A = Found} (Err q) (Ok tt) → ⊥
err_not_ok q e = let z : ◌≡◌ {A = ℕ} 0 1 = cc in omega arith

-- Where a test passes no place is bad.
none_bad : (n i : ℕ) (f : ℕ → Bool) (o : Option ℕ) → Ok tt ≡ at_place refusal n o → o ≡ first_where i f → Clear f i
none_bad n i f (Some k) p e = absurd (err_not_ok _ (sym p))
none_bad n i f None p e = first_where-tells i f None e

-- The last test, which points at nothing; t is whether it is bad, and u what the code found of that.
pub only_last : (n : ℕ) (t u : Bool) (o : Found) → o ≡ where_bad refusal n u → u ≡ t → o ≡ judged (only n t ∷ [])
only_last n t true o d e = only_refuses refusal (Ok tt) o n t [] o true d e (refusal n 0) d d
only_last n t false o d e = only_passes refusal (Ok tt) o n t [] o false d e d (judge_done (λ m k. Err (refusal m k)) (Ok tt) o d)

-- Where test 3 passes, the counts z are within their limits.
pub counts-within : (z : Sizes) (o : Found) (k : Option ℕ) → o ≡ at_place refusal 3 k → k ≡ first_where 5 (nth (count_faults z)) → o ≡ Ok tt → Limits z
counts-within z o k d e p = limits z (none_bad 3 5 (nth (count_faults z)) k (sym p ∙ d) e)

-- n are the lengths, and i is the first section at fault.
module _ (v : ℕ) (x : Sections) (n : Lengths) (e : n ≡ lengths_of x) where
  pub at_length : (i : Option ℕ) → i ≡ first_where 5 (nth (length_faults v n)) → i ≡ first_where 5 (nth (length_faults v (lengths_of x)))
  at_length i f = f ∙ ap (λ m. first_where 5 (nth (length_faults v m))) e

  -- z are the counts in 16 bits, and k is the first that is outside its limits.
  module _ (z : Sizes) (g : z ≡ cut_sizes (sizes_for v n)) where
    cut-sizes : z ≡ cut_sizes (sizes_in v x)
    cut-sizes = g ∙ ap (λ m. cut_sizes (sizes_for v m)) e

    pub at_count : (k : Option ℕ) → k ≡ first_where 5 (nth (count_faults z)) → k ≡ first_where 5 (nth (count_faults (sizes_in v x)))
    at_count k h = h ∙ ap (λ m. first_where 5 (nth (count_faults m))) cut-sizes ∙ ap (λ ts. first_where 5 (nth ts)) (cut-counts (sizes_in v x))

    module _ (o : Found) (k : Option ℕ) (d : o ≡ at_place refusal 3 k) (h : k ≡ first_where 5 (nth (count_faults z))) (p : o ≡ Ok tt) where
      in_limits : Limits (sizes_in v x)
      in_limits = counts-within (sizes_in v x) o k d (at_count k h) p

      same_sizes : z ≡ sizes_in v x
      same_sizes = cut-sizes ∙ cut_same (sizes_in v x) in_limits

      -- The counts are within their limits; t is what the tests of the records found, and r is answered.
      module _ (room : ℕ) (t r : Found) (u : t ≡ records_tested z x.states x.rules x.layers x.leaves) where
        tested : t ≡ judged (record_tests (sizes_in v x) x)
        unfolding records_tested
        tested = u ∙ ap (λ y. records_tested y x.states x.rules x.layers x.leaves) same_sizes

        pub room_then : t ≡ Ok tt → r ≡ judged (room_test v x room ∷ []) → r ≡ judged (record_tests (sizes_in v x) x ++ room_test v x room ∷ [])
        room_then = passed_then (record_tests (sizes_in v x) x) (room_test v x room ∷ []) t r tested

        pub room_else : (q : Refusal) → t ≡ Err q → r ≡ Err q → r ≡ judged (record_tests (sizes_in v x) x ++ room_test v x room ∷ [])
        room_else = refused_else (record_tests (sizes_in v x) x) (room_test v x room ∷ []) t r tested

      -- The lengths are whole, so the total of the header is the docket's length.
      pub room_by_total : (w : Found) (i : Option ℕ) → w ≡ at_place refusal 31 i → i ≡ first_where 5 (nth (length_faults v n)) → w ≡ Ok tt
          → (room t : ℕ) → t ≡ (header_for z).at.total → ltb room t ≡ ltb room (length (docket_of v x))
      room_by_total w i a b c room t u =
          ap (ltb room)
          (u ∙ ap (λ y. (offsets_for y).total) same_sizes
          ∙ total-length v x (whole_records v x (none_bad 31 5 (nth (length_faults v (lengths_of x))) i (sym c ∙ a) (at_length i b)))
          (omega (arith, in_limits.states_least)))

-- ---- The header

-- The numbers of a header, in order.
abbrev pub numbers_of : Header → List ℕ
numbers_of h =
    let z = h.sizes in
    let at = h.at in
    z.version ∷ z.states ∷ z.rules ∷ z.layers ∷ z.nodes ∷ z.leaves ∷ at.states ∷ at.rules ∷ at.layers ∷ at.nodes ∷ at.leaves ∷ at.total ∷ []

-- The bytes of 16-bit numbers.
abbrev pub bytes_of : List ℕ → List ℕ
bytes_of [] = []
bytes_of (n ∷ ns) = put16 n (bytes_of ns)

low_of : (ns : List ℕ) (i : ℕ) → get_or (bytes_of ns) (2 * i) 0 ≡ get_or ns i 0 % 256
low_of [] i = refl
low_of (n ∷ ns) zero = refl
low_of (n ∷ ns) (suc i) = let e : 2 * suc i ≡ suc (suc (2 * i)) = omega arith in ap (λ j. get_or (bytes_of (n ∷ ns)) j 0) e ∙ low_of ns i

high_of : (ns : List ℕ) (i : ℕ) → get_or (bytes_of ns) (2 * i + 1) 0 ≡ get_or ns i 0 / 256 % 256
high_of [] i = refl
high_of (n ∷ ns) zero = refl
high_of (n ∷ ns) (suc i) = let e : 2 * suc i + 1 ≡ suc (suc (2 * i + 1)) = omega arith in ap (λ j. get_or (bytes_of (n ∷ ns)) j 0) e ∙ high_of ns i

length-bytes : (ns : List ℕ) → length (bytes_of ns) ≡ 2 * length ns
length-bytes [] = refl
length-bytes (n ∷ ns) = omega (arith, length-bytes ns)

copied_more : (d s : List ℕ) (i : ℕ) → i < length d → i < length s → set (paste d 0 s i) i (get_or s i 0) ≡ paste d 0 s (i + 1)
copied_more d s i a b = let e : i ≡ 0 + i = omega arith in ap (λ j. set (paste d 0 s i) j (get_or s i 0)) e ∙ paste_more d 0 s i 0 (omega arith) b

-- The bytes of the first i numbers stand in b, and those of the next, l and h, are written behind them.
pub bytes_more : (d ns b : List ℕ) (i l h : ℕ) → b ≡ paste d 0 (bytes_of ns) (2 * i) → i < length ns → 2 * length ns ≡ length d
    → l ≡ get_or ns i 0 % 256 → h ≡ get_or ns i 0 / 256 % 256 → set (set b (2 * i) l) (2 * i + 1) h ≡ paste d 0 (bytes_of ns) (2 * (i + 1))
bytes_more d ns b i l h e some room el eh =
    let s = bytes_of ns in
    let more : length s ≡ 2 * length ns = length-bytes ns in
    let one : set (paste d 0 s (2 * i)) (2 * i) l ≡ paste d 0 s (2 * i + 1) =
    ap (set (paste d 0 s (2 * i)) (2 * i)) (el ∙ sym (low_of ns i)) ∙ copied_more d s (2 * i) (omega arith) (omega arith) in
    let two : set (paste d 0 s (2 * i + 1)) (2 * i + 1) h ≡ paste d 0 s (2 * i + 1 + 1) =
    ap (set (paste d 0 s (2 * i + 1)) (2 * i + 1)) (eh ∙ sym (high_of ns i)) ∙ copied_more d s (2 * i + 1) (omega arith) (omega arith) in
    let last : 2 * i + 1 + 1 ≡ 2 * (i + 1) = omega arith in
    ap (λ f. set (set f (2 * i) l) (2 * i + 1) h) e ∙ ap (λ f. set f (2 * i + 1) h) one ∙ two ∙ ap (paste d 0 s) last

-- ---- The output

-- Bytes copied over those from `at` on.
module _ (out part ys : List ℕ) (at : ℕ) (room : at + length part ≤ length out)
    (e : ys ≡ take (length part) part ++ drop (length part) (take (length out - at) (drop at out))) where
  pub copied : take at out ++ (ys ++ drop (length out - at) (drop at out)) ≡ replaced out at part
  unfolding replaced
  copied =
      let k = length out - at in
      let rest : length (drop at out) ≡ k = length-drop at out in
      let all : take k (drop at out) ≡ drop at out = take_all k (drop at out) (omega arith) in
      let none : drop k (drop at out) ≡ [] = drop_of_length-le (drop at out) {i = k} (omega arith) in
      let bytes : ys ≡ part ++ drop (at + length part) out =
      e ∙ ap (λ f. f ++ drop (length part) (take k (drop at out))) (take-length part)
      ∙ ap (λ f. part ++ drop (length part) f) all ∙ ap (λ f. part ++ f) (drop-drop (length part) at out) in
      ap (λ f. take at out ++ (ys ++ f)) none ∙ ap (λ f. take at out ++ f) (append-nil ys ∙ bytes)

  pub copied_length : length (take at out ++ (ys ++ drop (length out - at) (drop at out))) ≡ length out
  unfolding replaced
  copied_length =
      ap length copied
      ∙ (let sum : length (replaced out at part) ≡ length out = simp (length-append, length-take, length-drop) (omega arith) in sum)

-- The first bytes of the output o are `front`, and behind them stands what was there.
pub record Begun (old front o : List ℕ) (at : ℕ) : Type 0 where
  pub is : o ≡ front ++ drop (length front) old
  pub end : at ≡ length front

begun_more : (old front part o q : List ℕ) (at k : ℕ) → Begun old front o at → q ≡ replaced o at part → k ≡ at + length part
    → Begun old (front ++ part) q k
unfolding replaced
begun_more old front part o q at k b e d = record {
  is =
      e ∙ ap (λ n. replaced o n part) b.end ∙ ap (λ l. replaced l (length front) part) b.is
      ∙ ap (λ l. l ++ (part ++ drop (length front + length part) (front ++ drop (length front) old))) (take-append_seam front (drop (length front) old))
      ∙ ap (λ l. front ++ (part ++ l)) (drop-append-add front (drop (length front) old) (length part) ∙ drop-drop (length part) (length front) old)
      ∙ sym (append_assoc front part (drop (length front + length part) old))
      ∙ ap (λ n. (front ++ part) ++ drop n old) (sym (length-append front part));
  end = omega (arith, d, b.end, length-append front part);
}

-- The header and the five sections have been put behind each other.
module _ (v : ℕ) (x : Sections) (old : List ℕ) {h o₁ o₂ o₃ o₄ o₅ o₆ : List ℕ} {a₁ a₂ a₃ a₄ a₅ a₆ : ℕ}
    (e₁ : o₁ ≡ replaced old 0 h) (d₁ : a₁ ≡ 0 + length h)
    (e₂ : o₂ ≡ replaced o₁ a₁ x.states) (d₂ : a₂ ≡ a₁ + length x.states)
    (e₃ : o₃ ≡ replaced o₂ a₂ x.rules) (d₃ : a₃ ≡ a₂ + length x.rules)
    (e₄ : o₄ ≡ replaced o₃ a₃ x.layers) (d₄ : a₄ ≡ a₃ + length x.layers)
    (e₅ : o₅ ≡ replaced o₄ a₄ x.nodes) (d₅ : a₅ ≡ a₄ + length x.nodes)
    (e₆ : o₆ ≡ replaced o₅ a₅ x.leaves) (d₆ : a₆ ≡ a₅ + length x.leaves)
    {g : Header} (d : g ≡ header_for (sizes_in v x)) (e : h ≡ header_bytes g) where
  all_begun : Begun old (docket_of v x) o₆ a₆
  unfolding docket_of
  all_begun =
      let b₀ : Begun old [] old 0 = record { is = refl; end = refl } in
      let b₁ = begun_more old [] h old o₁ 0 a₁ b₀ e₁ d₁ in
      let b₂ = begun_more old h x.states o₁ o₂ a₁ a₂ b₁ e₂ d₂ in
      let b₃ = begun_more old (h ++ x.states) x.rules o₂ o₃ a₂ a₃ b₂ e₃ d₃ in
      let b₄ = begun_more old (h ++ x.states ++ x.rules) x.layers o₃ o₄ a₃ a₄ b₃ e₄ d₄ in
      let b₅ = begun_more old (h ++ x.states ++ x.rules ++ x.layers) x.nodes o₄ o₅ a₄ a₅ b₄ e₅ d₅ in
      let b₆ = begun_more old (h ++ x.states ++ x.rules ++ x.layers ++ x.nodes) x.leaves o₅ o₆ a₅ a₆ b₅ e₆ d₆ in
      let head : h ≡ header_bytes (header_for (sizes_in v x)) = e ∙ ap header_bytes d in
      subst (λ l. Begun old l o₆ a₆)
      (append_assoc (h ++ x.states ++ x.rules ++ x.layers) x.nodes x.leaves
      ∙ append_assoc (h ++ x.states ++ x.rules) x.layers (x.nodes ++ x.leaves)
      ∙ append_assoc (h ++ x.states) x.rules (x.layers ++ (x.nodes ++ x.leaves))
      ∙ append_assoc h x.states (x.rules ++ (x.layers ++ (x.nodes ++ x.leaves)))
      ∙ ap (λ l. l ++ (x.states ++ (x.rules ++ (x.layers ++ (x.nodes ++ x.leaves))))) head)
      b₆

  pub docket_put : (a₆ ≡ length (docket_of v x)) × (o₆ ≡ docket_of v x ++ drop (length (docket_of v x)) old)
  docket_put = (all_begun.end, all_begun.is)

-- ---- The answer

-- A refusal leaves the output as it was.
as_it_was : (v : ℕ) (x : Sections) (out : List ℕ) (q : Refusal) → Err q ≡ write_of v x (length out) → out ≡ output_of v x out
unfolding output_of
as_it_was v x out q e = ap (written v x out) e

-- Test 2 found w, where t says whether the version is unknown.
module _ (v : ℕ) (x : Sections) (out : List ℕ) (t : Bool) (w : Found) (c : w ≡ where_bad refusal 2 t) (f : t ≡ wrong_version v) where
  module _ (q : Refusal) (unknown : w ≡ Err q) where
    pub version_answer : Err q ≡ write_of v x (length out)
    unfolding write_of
    version_answer = only_refuses refusal (Ok (length (docket_of v x))) (Err q) 2 _ _ w t c f q unknown refl

    pub version_output : out ≡ output_of v x out
    version_output = as_it_was v x out q version_answer

  -- The version is known; n are the lengths, z the version and the counts, and the tests behind that of the version found o.
  module _ (known : w ≡ Ok tt) (n : Lengths) (z : Sizes) (d : n ≡ lengths_of x) (g : z ≡ cut_sizes (sizes_for v n))
      (o : Found) (e : o ≡ parts_tested z.version x (length out)) where
    version_same : z.version ≡ v
    version_same = ap (λ (y : Sizes). y.version) g

    tested_as : o ≡ parts_tested v x (length out)
    tested_as = e ∙ ap (λ u. parts_tested u x (length out)) version_same

    answer : as_written (length (docket_of v x)) o ≡ write_of v x (length out)
    unfolding write_of parts_tested
    answer =
        only_passes refusal (Ok (length (docket_of v x))) _ 2 _ _ w t c f known
        (ap (as_written (length (docket_of v x))) tested_as
        ∙ judge_map (as_written (length (docket_of v x))) (λ m k. Err (refusal m k)) (Ok tt) (part_tests v x (length out)))

    module _ (p : o ≡ Ok tt) where
      total : Ok (length (docket_of v x)) ≡ write_of v x (length out)
      total = ap (as_written (length (docket_of v x))) (sym p) ∙ answer

      passes : Passes (part_tests v x (length out))
      unfolding parts_tested
      passes = tested_passes refusal (part_tests v x (length out)) (sym tested_as ∙ p)

      within : Limits (sizes_in v x)
      within = limits (sizes_in v x) passes.1.0

      sizes : z ≡ sizes_in v x
      sizes = g ∙ ap (λ m. cut_sizes (sizes_for v m)) d ∙ cut_same (sizes_in v x) within

      pub fits_limits : Limits z
      fits_limits = subst Limits (sym sizes) within

      pub has_room : 24 + length x.states + length x.rules + length x.layers + length x.nodes + length x.leaves ≤ length out
      has_room = omega (arith, docket_length v x, ltb-false (length out) (length (docket_of v x)) (room_passes v x (length out) passes))

      module _ (h : Header) (i : h ≡ header_for z) where
        header_version : h.sizes.version ≡ v
        header_version = ap (λ (k : Header). k.sizes.version) i ∙ version_same

        pub fits_header : h ≡ header_for (sizes_in h.sizes.version x)
        fits_header = i ∙ ap header_for sizes ∙ ap (λ u. header_for (sizes_in u x)) (sym header_version)

        pub written-answer : (k : ℕ) → k ≡ length (docket_of h.sizes.version x) → Ok k ≡ write_of v x (length out)
        written-answer k j = ap Ok (j ∙ ap (λ u. length (docket_of u x)) header_version) ∙ total

        pub written_output : (l : List ℕ) → l ≡ docket_of h.sizes.version x ++ drop (length (docket_of h.sizes.version x)) out → l ≡ output_of v x out
        unfolding output_of
        written_output l j = j ∙ ap (λ u. docket_of u x ++ drop (length (docket_of u x)) out) header_version ∙ ap (written v x out) total

    module _ (q : Refusal) (p : o ≡ Err q) where
      pub refused_answer : (a : Result ℕ Refusal) → a ≡ Err q → a ≡ write_of v x (length out)
      refused_answer a u = u ∙ ap (as_written (length (docket_of v x))) (sym p) ∙ answer

      pub refused_output : out ≡ output_of v x out
      refused_output = as_it_was v x out q (refused_answer (Err q) refl)
