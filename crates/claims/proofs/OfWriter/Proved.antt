-- The claims about the writer are proved. Assumes nothing.
use Rattle.std.specs.Prelude.{Result}
use Rattle.refusals.specs.declared.Refusal.{Refusal}
use Rattle.refusals.specs.Refusal.{refusal}
use Rattle.std.specs.Prelude.{◌≡◌, false, List, [], ◌∷◌, ◌++◌, ◌↔◌, ◌⊎◌, ℕ, ◌≤◌, ◌<◌, ltb, length, take, drop, Ok, Err}
use Rattle.std.proofs.Math.Path.{refl, ap}
use Rattle.std.proofs.Common.{sym, ◌∙◌, subst, inl, inr, arith, ltb-true, ltb-false, lt-ltb, take_at, drop_at}
use Rattle.std.proofs.Math.Bool.{true}
use Rattle.std.proofs.Math.Logic.{⊎_elim}
use Rattle.theory.proofs.Bool.Laws.{by_test, not_both, is_true, is_false}
use Rattle.theory.specs.Below.{Clear, first_below}
use Rattle.theory.proofs.Below.Laws.{first_passes, first-lowest}
use Rattle.theory.proofs.Below.Scan.{first_clear}
use Rattle.theory.specs.Judge.{Test, Passes, FirstFits}
use Rattle.theory.proofs.Judge.Laws.{judge-passes, passes-judge, refused_by, fits_refuses, fits_split, fits-here, fits_none, fits_past, fits_other, fits_after}
use Rattle.theory.proofs.Judge.Laws.{passes-front, passes_back}
use Rattle.theory.proofs.Subtree.Laws.{number_12_13}
use Rattle.format.specs.Format.{header_of, Sections, sections_of, end_weight}
use Rattle.format.specs.declared.Sizes.{Sizes}
use Rattle.format.specs.declared.Header.{Header}
use Rattle.shape.specs.Shape.{nth, wrong_version, version_test, count_test, section_tests, shape_tests}
use Rattle.shape.specs.Sound.{IsVersion, Limits, SoundShape}
use Rattle.shape.proofs.SoundLaws.{version_passes, limits, sound_passes}
use Rattle.leaf.specs.Leaf.{bad_leaf, leaf_test}
use Rattle.leaf.specs.Leaf.Laws.{leaf_good, leaf-bad}
use Rattle.checker.specs.Check.{certificate_tests, check_of}
use Rattle.writer.specs.Write.{lengths_of, length_faults, sizes_in, WholeRecords, AreBytes, header_for, docket_of}
use Rattle.writer.specs.Write.{length_test, record_tests, room_test, part_tests, write_tests, write_of, output_of, written}
use Rattle.writer.proofs.WriteLaws.{whole_records, whole_clear, docket_length, total-length, total_by_width, room_passes}
use Rattle.writer.proofs.RoundTripLaws.{header_same, sections_same, written_sound, written-again, again-passes}
use Rattle.codes.specs.Codes.{answer_code}
use Rattle.claims.proofs.OfDocket.Numbers.{is_one_of, judge-number}
use Rattle.claims.proofs.OfDocket.Codes.{not_zero, fits-place}
use Rattle.claims.proofs.OfDocket.Refusals as check
use Rattle.claims.specs.OfDocket.{LeafWeights}
use Rattle.claims.specs.OfWriter.{Readable, Answers, Wrote, OfWriter}

abbrev refuse : ℕ → ℕ → Result ℕ Refusal
refuse n k = Err (refusal n k)

-- Of a total any of the writer's numbers will do.
abbrev number_in : Result ℕ Refusal → ℕ
number_in (Ok n) = 3
number_in (Err r) = r.number

abbrev place_in : Result ℕ Refusal → ℕ
place_in (Ok n) = 0
place_in (Err r) = r.place

abbrev total_in : Result ℕ Refusal → ℕ
total_in (Ok n) = n
total_in (Err r) = 0

tells : (n k m j : ℕ) → refuse n k ≡ refuse m j → (n ≡ m) × (k ≡ j)
tells n k m j e = (ap number_in e, ap place_in e)

refused_not_total : {r : Refusal} {n : ℕ} → Err r ≡ Ok n → ⊥
refused_not_total {r} {n} e = let z : ◌≡◌ {A = ℕ} 0 1 = cc in omega arith

module _ (v : ℕ) (x : Sections) (out : List ℕ) where
  abbrev tests : List Test
  tests = write_tests v x (length out)

  abbrev len : ℕ
  len = length (docket_of v x)

  total_is : (n : ℕ) → (write_of v x (length out) ≡ Ok n) ↔ (Passes tests × (n ≡ len))
  unfolding write_of
  total_is n = (
    λ e.
        let p = judge-passes refuse (Ok len) (Ok n) (λ m k. refused_not_total) tests e in
        (p, ap total_in (sym e ∙ passes-judge refuse (Ok len) tests p)),
    λ p. passes-judge refuse (Ok len) tests p.0 ∙ ap Ok (sym p.1),
  )

  refusal_is : (n k : ℕ) → (write_of v x (length out) ≡ refuse n k) ↔ FirstFits tests n k
  unfolding write_of
  refusal_is n k = (
    λ e. ⊎_elim (λ f. f) (λ p. absurd (refused_not_total (sym p.1))) (refused_by refuse (Ok len) tells tests n k e),
    fits_refuses refuse (Ok len) tests n k,
  )

  -- The version by its test.
  known_clear : IsVersion v → wrong_version v ≡ false
  known_clear = (version_passes v).1

  refusal_2 : (k : ℕ) → (write_of v x (length out) ≡ refuse 2 k) ↔ ((k ≡ 0) × (IsVersion v → ⊥))
  refusal_2 k = (
    λ e.
        let h = fits-here (version_test v) (part_tests v x (length out)) 2 k (fits_other _ 2 k refl) ((refusal_is 2 k).0 e) in
        (omega (arith, h.1), λ known. not_both h.2 (known_clear known)),
    λ p. (refusal_is 2 k).1 (record {
      earlier = [];
      test = version_test v;
      later = part_tests v x (length out);
      in_order = refl;
      earlier_pass = tt;
      number_is = refl;
      within = omega (arith, p.0);
      fits = is_true _ (λ e. p.1 ((version_passes v).0 e));
      lowest_place = λ j l. absurd (omega (arith, p.0));
    }),
  )

  -- The tests behind 31, and those before 30.
  abbrev later : List Test
  later = count_test (sizes_in v x) ∷ (record_tests (sizes_in v x) x ++ room_test v x (length out) ∷ [])

  abbrev earlier : List Test
  earlier = version_test v ∷ length_test v x ∷ count_test (sizes_in v x) ∷ record_tests (sizes_in v x) x

  refusal_31 : IsVersion v → (k : ℕ) → let fault = nth (length_faults v (lengths_of x)) in
      (write_of v x (length out) ≡ refuse 31 k) ↔ ((k < 5) × (fault k ≡ true) × Clear fault k)
  refusal_31 known k = (
    λ e.
        let first : Passes (version_test v ∷ []) = (λ j l. known_clear known, tt) in
        let h = fits-here (length_test v x) later 31 k (fits_other later 31 k refl)
        (fits_after (version_test v ∷ []) (length_test v x ∷ later) 31 k first ((refusal_is 31 k).0 e)) in
        (h.1, h.2, h.3),
    λ p. (refusal_is 31 k).1 (record {
      earlier = version_test v ∷ [];
      test = length_test v x;
      later = later;
      in_order = refl;
      earlier_pass = (λ j l. known_clear known, tt);
      number_is = refl;
      within = p.0;
      fits = p.1;
      lowest_place = p.2;
    }),
  )

  no_31 : IsVersion v → ((k : ℕ) → write_of v x (length out) ≡ refuse 31 k → ⊥) ↔ WholeRecords v x
  no_31 known =
      let f = nth (length_faults v (lengths_of x)) in (
        λ none.
            whole_records v x
            (by_test (ltb (first_below 5 f) 5)
            (λ l.
            let m : first_below 5 f < 5 = ltb-true (first_below 5 f) 5 l in
            absurd (none (first_below 5 f) ((refusal_31 known (first_below 5 f)).1 (m, first_passes 5 f m, λ k n. first-lowest 5 f k n))))
            (λ l. first_clear 5 f (ltb-false (first_below 5 f) 5 l))),
        λ w k e. let p = (refusal_31 known k).0 e in not_both p.1 (whole_clear v x w k p.0),
      )

  refusal_30 : (k : ℕ) → (write_of v x (length out) ≡ refuse 30 k) ↔ ((k ≡ 0) × Passes earlier × (length out < len))
  refusal_30 k = (
    λ e.
        let p = fits_past earlier (room_test v x (length out) ∷ []) 30 k refl ((refusal_is 30 k).0 e) in
        let h = fits-here (room_test v x (length out)) [] 30 k (fits_none 30 k) p.1 in
        (omega (arith, h.1), p.0, ltb-true (length out) len h.2),
    λ p. (refusal_is 30 k).1 (record {
      earlier = earlier;
      test = room_test v x (length out);
      later = [];
      in_order = refl;
      earlier_pass = p.1;
      number_is = refl;
      within = omega (arith, p.0);
      fits = lt-ltb (length out) len p.2;
      lowest_place = λ j l. absurd (omega (arith, p.0));
    }),
  )

  -- The numbers of the writer's refusals.
  abbrev numbers : List ℕ
  numbers = 2 ∷ 31 ∷ 3 ∷ 5 ∷ 6 ∷ 7 ∷ 14 ∷ 8 ∷ 11 ∷ 30 ∷ []

  one_of : is_one_of (number_in (write_of v x (length out))) numbers ≡ true
  unfolding is_one_of write_of
  one_of =
      judge-number number_in refuse (Ok len) numbers (λ n k. refl) refl tests
      (refl, (refl, (refl, (refl, (refl, (refl, (refl, (refl, (refl, (refl, tt))))))))))

  code : (answer_code (write_of v x (length out)) ≡ 0) ↔ ((n : ℕ) × (write_of v x (length out) ≡ Ok n))
  unfolding is_one_of
  code = (go (write_of v x (length out)) one_of, λ s. ap answer_code s.1)
    where
      go : (a : Result ℕ Refusal) → is_one_of (number_in a) numbers ≡ true → answer_code a ≡ 0 → (n : ℕ) × (a ≡ Ok n)
      go (Ok n) p e = (n, refl)
      go (Err r) p e = absurd (not_zero r.number numbers p refl (omega arith))

  place : (n k : ℕ) → write_of v x (length out) ≡ refuse n k → k < 65536
  place n k e =
      ⊎_elim (λ h. omega (arith, h.1)) (λ u.
      ⊎_elim (λ h. omega (arith, h.1)) (λ s.
      ⊎_elim (λ h. omega (arith, h.1)) (λ t.
      let l : Limits (sizes_in v x) = limits (sizes_in v x) t.0 in
      fits-place 65536 n k _ (
        omega (arith, l.states_most),
        (
          omega (arith, l.rules_most),
          (
            omega (arith, l.rules_most),
            (
              omega (arith, l.rules_most),
              (omega (arith, l.layers_most), (omega (arith, l.leaves_most), (omega arith, tt))),
            ),
          ),
        ),
      ) t.1)
      (fits_split (count_test (sizes_in v x)) _ n k s.1))
      (fits_split (length_test v x) later n k u.1))
      (fits_split (version_test v) (part_tests v x (length out)) n k ((refusal_is n k).0 e))

  answers : Answers v x out
  answers = record {
    total_is = total_is;
    refusal_is = refusal_is;
    refusal_2 = refusal_2;
    refusal_31 = refusal_31;
    no_31 = no_31;
    refusal_30 = refusal_30;
    code = code;
    place = place;
  }

  unchanged : (r : Refusal) → write_of v x (length out) ≡ Err r → output_of v x out ≡ out
  unfolding output_of
  unchanged r e = ap (written v x out) e

-- ---- What is written

-- All tests of the sections pass.
module _ (v : ℕ) (x : Sections) (p : Passes (version_test v ∷ length_test v x ∷ count_test (sizes_in v x) ∷ record_tests (sizes_in v x) x)) where
  abbrev z : Sizes
  z = sizes_in v x

  abbrev b : List ℕ
  b = docket_of v x

  known : IsVersion v
  known = (version_passes v).0 (p.0 0 (omega arith))

  w : WholeRecords v x
  w = whole_records v x p.1.0

  L : Limits z
  L = limits z p.1.1.0

  sound : SoundShape b (header_for z)
  sound = written_sound v x known w L (passes-front (section_tests z x) (leaf_test z x.leaves ∷ []) p.1.1.1)

  clear : Clear (bad_leaf z x.leaves) z.leaves
  clear = (passes_back (section_tests z x) (leaf_test z x.leaves ∷ []) p.1.1.1).0

  -- What holds of the header that was written and of the sections x holds of what is read.
  read : (Q : Header → Sections → Type 0) → Q (header_for z) x → Q (header_of b) (sections_of b (header_of b))
  read Q q = subst (λ h. Q h (sections_of b h)) (sym (header_same v x known w L)) (subst (Q (header_for z)) (sym (sections_same v x known w L)) q)

  sound_read : SoundShape b (header_of b)
  sound_read = subst (SoundShape b) (sym (header_same v x known w L)) sound

  readable : Readable b (header_of b)
  readable = record {
    shape = sound_read;
    leaf_weights =
        read (λ h y. (l e s : ℕ) → l < h.sizes.leaves → e < 2 → s < h.sizes.states → end_weight h.sizes y.leaves l e s ≤ 20000)
        (λ l e s i. leaf_good z x.leaves l (clear l i) e s);
  }

  check_says : (m k : ℕ) → check_of b ≡ Err (refusal m k) → (m ≡ 9) ⊎ (m ≡ 10) ⊎ (m ≡ 12) ⊎ (m ≡ 13)
  check_says m k e =
      let h = header_of b in
      let y = sections_of b h in
      let leaves : Clear (bad_leaf h.sizes y.leaves) h.sizes.leaves =
      read (λ g v. Clear (bad_leaf g.sizes v.leaves) g.sizes.leaves) clear in
      ⊎_elim
      (λ f.
      ⊎_elim (λ t. inl (sym t.0)) (λ s.
      ⊎_elim (λ t. inr (inl (sym t.0))) (λ r.
      ⊎_elim (λ t. absurd (not_both t.2 (leaves k t.1))) (λ q. absurd (fits_none m k q.1))
      (fits_split _ _ m k r.1))
      (fits_split _ _ m k s.1))
      (fits_split _ _ m k (fits_after (shape_tests b h) (certificate_tests h.sizes y) m k (sound_passes b h sound_read) f)))
      (λ q. ⊎_elim (λ d. inr (inr (inl d))) (λ d. inr (inr (inr d))) (number_12_13 _ _ _ m k q.1))
      ((check.refusal_is b m k).0 e)

module _ (v : ℕ) (x : Sections) (out : List ℕ) (n : ℕ) (e : write_of v x (length out) ≡ Ok n) where
  abbrev all : Passes (write_tests v x (length out)) × (n ≡ length (docket_of v x))
  all = (total_is v x out n).0 e

  passes : Passes (version_test v ∷ length_test v x ∷ count_test (sizes_in v x) ∷ record_tests (sizes_in v x) x)
  passes = passes-front (version_test v ∷ length_test v x ∷ count_test (sizes_in v x) ∷ record_tests (sizes_in v x) x) (room_test v x (length out) ∷ []) all.0

  output : output_of v x out ≡ docket_of v x ++ drop n out
  unfolding output_of
  output = ap (written v x out) e

  docket : take n (output_of v x out) ≡ docket_of v x
  docket = ap (take n) output ∙ take_at (docket_of v x) (drop n out) n (sym all.1)

  writes : Wrote v x out n
  writes = record {
    total_sum = all.1 ∙ docket_length v x;
    total_most =
        omega (arith, all.1, total-length v x (w v x passes) (omega (arith, (L v x passes).states_least)), total_by_width (sizes_in v x) (L v x passes));
    room = omega (arith, all.1, ltb-false (length out) (length (docket_of v x)) (room_passes v x (length out) all.0.1));
    docket = docket;
    rest_stays = ap (drop n) output ∙ drop_at (docket_of v x) (drop n out) n (sym all.1);
    header = ap header_of docket ∙ header_same v x (known v x passes) (w v x passes) (L v x passes);
    readable = subst (λ b. Readable b (header_of b)) (sym docket) (readable v x passes);
    same_sections = subst (λ b. sections_of b (header_of b) ≡ x) (sym docket) (read v x passes (λ _ y. y ≡ x) refl);
    check_says = λ m k r. check_says v x passes m k (ap check_of (sym docket) ∙ r);
  }

-- ---- What is written again

leaf_weights_is : (b : List ℕ) (h : Header) → LeafWeights b h ↔ Passes (leaf_test h.sizes (sections_of b h).leaves ∷ [])
leaf_weights_is b h =
    let z = h.sizes in
    let v = (sections_of b h).leaves in (
      λ g. (
        λ l i. is_false (bad_leaf z v l) (λ e. let f = leaf-bad z v l e in omega (arith, f.4, g l f.0 f.1 i f.2 f.3)),
        tt,
      ),
      λ p l e s i. leaf_good z v l (p.0 l i) e s,
    )

module _ (b : List ℕ) (bytes : AreBytes b) (h : Header) (g : Readable b h) where
  abbrev x : Sections
  x = sections_of b h

  abbrev v : ℕ
  v = h.sizes.version

  same : docket_of v x ≡ b
  same = written-again b h g.shape bytes

  passes-again : (room : ℕ) → length b ≤ room → Passes (write_tests v x room)
  passes-again = again-passes b h g.shape bytes ((leaf_weights_is b h).0 g.leaf_weights).0

  again : (out : List ℕ) → length b ≤ length out → (write_of v x (length out) ≡ Ok (length b)) × (output_of v x out ≡ b ++ drop (length b) out)
  again out fits =
      let total = (total_is v x out (length b)).1 (passes-again (length out) fits, sym (ap length same)) in
      (total, output v x out (length b) total ∙ ap (λ d. d ++ drop (length b) out) same)

  no_room : (out : List ℕ) → length out < length b → write_of v x (length out) ≡ refuse 30 0
  no_room out short =
      (refusal_30 v x out 0).1 (
        refl,
        passes-front (version_test v ∷ length_test v x ∷ count_test (sizes_in v x) ∷ record_tests (sizes_in v x) x) (room_test v x (length b) ∷ [])
            (passes-again (length b) (omega arith)),
        omega (arith, ap length same),
      )

pub of_writer : OfWriter
of_writer = record {
  answers = answers;
  writes = writes;
  unchanged = unchanged;
  writes_again = again;
  no_room_again = no_room;
  leaf_weights_is = leaf_weights_is;
}
