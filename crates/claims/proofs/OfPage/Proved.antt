-- The claims about pages are proved. Assumes nothing.
use Rattle.std.specs.Prelude.{Result}
use Rattle.refusals.specs.declared.Refusal.{Refusal}
use Rattle.refusals.specs.Refusal.{refusal}
use Rattle.std.specs.Prelude.{◌≡◌, Bool, false, not, ◌||◌, ◌↔◌, ℕ, suc, ◌+◌, ◌*◌, ◌/◌, ◌%◌, ◌≤◌, ◌<◌, eqb, get_or, drop, Ok, Err}
use Rattle.std.proofs.Math.Path.{refl, sym, ap, subst}
use Rattle.std.proofs.Common.{◌∙◌, ⊎_elim, zero-mul, mul-pos, div-add-mod', mul-div_cancel, get_or-take, get_or-drop}
use Rattle.std.proofs.Math.Bool.{true}
use mathlib.Core.List.{List, [], ◌∷◌, ◌++◌, map, map-append}
use Rattle.std.proofs.Math.Logic.{by_cases}
use Rattle.std.proofs.Math.Decide.{dec_lt}
use Rattle.std.proofs.Math.Nat.{mul-mod_left}
use native.Mathlib.Omega.{arith}
use borrow.Author.Tests.{eqb-true, eqb-false, eq-eqb, ne_eqb, not-false}
use Rattle.std.proofs.Math.ListN.{length}
use Rattle.theory.specs.Bool.{bit}
use Rattle.theory.proofs.Bool.Laws.{by_test, is_true, is_false, or_none, or_fails, and_intro}
use Rattle.theory.specs.Judge.{Test, judge, Passes, FirstFits}
use Rattle.theory.proofs.Judge.Laws.{judge_map, judge-append, judge-passes, passes-judge, judge_done, only_hit, only_pass}
use Rattle.theory.proofs.Judge.Laws.{refused_by, fits_refuses, passes-front}
use Rattle.theory.specs.Protocol.{Protocol, size, terminal, Start, Shows}
use Rattle.theory.specs.Ladder.{Layers, QuietBelow, layered, rank}
use Rattle.theory.specs.Machine.{Call, run, Reply, ran, refused, meetings_of, is_sized, is_within, admitted, numbers_of}
use Rattle.theory.proofs.Machine.Laws.{runs_layered}
use Rattle.theory.specs.Claims.{Rests, RunMakes}
use Rattle.format.specs.Format.{header_of, protocol_in, layers_in, weight_in}
use Rattle.format.specs.declared.Header.{Header}
use Rattle.shape.specs.Shape.{shape_tests, header_shape, shape_of, by_shape}
use Rattle.shape.specs.Sound.{SoundShape}
use Rattle.shape.proofs.SoundLaws.{sound_shape, shape_sound}
use Rattle.machine.specs.Calls.{verdict_of, reply_of, counts_of}
use Rattle.machine.specs.Code.Laws.{counts_sound}
use Rattle.page.specs.Page.{part_at, each_part, result_of, page_tests, page_of, unless_refused, counts_after_page, results_after_page}
use Rattle.page.proofs.PageLaws.{part_within, part_length, each-length, part_of_each, parts-only}
use Rattle.page.specs.Code.{run_counts}
use Rattle.page.proofs.CodeLaws.{run_length, two_long}
use Rattle.codes.specs.Codes.{answer_code}
use Rattle.claims.specs.OfDocket.{IsAccepted, Demand3, last_on, reported_on}
use Rattle.claims.proofs.OfDocket.Numbers.{is_one_of, shape_numbers, judge-number}
use Rattle.claims.proofs.OfDocket.Codes.{not_zero, tests-place}
use Rattle.claims.proofs.OfDocket.Says.{demand_1}
use Rattle.claims.proofs.OfDocket.Lists.{calls_on}
use Rattle.claims.proofs.OfDocket.Proved.{of_docket}
use Rattle.claims.specs.OfPage.{groups_in, group_in, first, second, tests_of_page, AreGroups, PageAnswers, GroupRuns, PageRuns}
use Rattle.claims.specs.OfPage.{after_pages, steps_on_pages, group_after, PagesAreRuns, PagesSettle, StartOutput, OfPage}

abbrev refuse : ℕ → ℕ → Result (Unit {0}) Refusal
refuse n k = Err (refusal n k)

abbrev number_in : Result (Unit {0}) Refusal → ℕ
number_in (Ok t) = 0
number_in (Err r) = r.number

abbrev place_in : Result (Unit {0}) Refusal → ℕ
place_in (Ok t) = 0
place_in (Err r) = r.place

-- The numbers of its refusals; of a call that is done any of them will do.
abbrev page_numbers : List ℕ
page_numbers = shape_numbers ++ 32 ∷ 33 ∷ []

abbrev number_or32 : Result (Unit {0}) Refusal → ℕ
number_or32 (Ok t) = 32
number_or32 (Err r) = r.number

tells : (n k m j : ℕ) → refuse n k ≡ refuse m j → (n ≡ m) × (k ≡ j)
tells n k m j e = (ap number_in e, ap place_in e)

refused_not_done : {q : Refusal} → ◌≡◌ {A = Result (Unit {0}) Refusal} (Err q) (Ok tt) → ⊥
refused_not_done {q} e = let z : ◌≡◌ {A = ℕ} 0 1 = cc in omega arith

-- ---- What the call answers

module _ (b c r : List ℕ) where
  abbrev tests : List Test
  tests = tests_of_page b c r

  -- The answer is one list of tests.
  judged : page_of b c r ≡ judge refuse (Ok tt) tests
  unfolding page_of shape_of header_shape
  judged =
      let h = header_of b in
      let own : Header → List Test = λ k. page_tests k.sizes.states (length c) (length r) in
      judge_map (by_shape Err (λ k. judge refuse (Ok tt) (own k))) (λ n k. Err (refusal n k)) (Ok h) (shape_tests b h)
      ∙ sym (judge-append refuse (Ok tt) (shape_tests b h) (own h))

  done_is : (page_of b c r ≡ Ok tt) ↔ Passes tests
  done_is = (
    λ e. judge-passes refuse (Ok tt) (Ok tt) (λ n k. refused_not_done) tests (sym judged ∙ e),
    λ p. judged ∙ passes-judge refuse (Ok tt) tests p,
  )

  refusal_is : (n k : ℕ) → (page_of b c r ≡ refuse n k) ↔ FirstFits tests n k
  refusal_is n k = (
    λ e. ⊎_elim (λ f. f) (λ p. absurd (refused_not_done (sym p.1))) (refused_by refuse (Ok tt) tells tests n k (sym judged ∙ e)),
    λ f. judged ∙ fits_refuses refuse (Ok tt) tests n k f,
  )

  -- A docket on which the call is done passes tests 1 to 8.
  done_sound : page_of b c r ≡ Ok tt → SoundShape b (header_of b)
  unfolding shape_of header_shape
  done_sound e =
      let h = header_of b in
      let own = page_tests h.sizes.states (length c) (length r) in
      sound_shape b h (passes-judge _ _ (shape_tests b h) (passes-front (shape_tests b h) own (done_is.0 e)))

  -- On a docket that passes tests 1 to 8.
  module _ (h : Header) (sound : SoundShape b h) where
    abbrev S : ℕ
    S = h.sizes.states

    abbrev not_groups : Bool
    not_groups = eqb (length c) 0 || not (eqb (length c % S) 0)

    abbrev not_two_each : Bool
    not_two_each = not (eqb (length r) (2 * (length c / S)))

    some : 0 < S
    some = omega (arith, sound.limits.states_least)

    by_tests : page_of b c r ≡ judge refuse (Ok tt) (page_tests S (length c) (length r))
    unfolding page_of
    by_tests = ap (by_shape Err (λ k. judge refuse (Ok tt) (page_tests k.sizes.states (length c) (length r)))) (shape_sound b h sound)

    is_32 : not_groups ≡ true → page_of b c r ≡ refuse 32 0
    is_32 e = by_tests ∙ sym (only_hit refuse (Ok tt) (refuse 32 0) 32 not_groups true _ (sym e) refl refl)

    is_33 : not_groups ≡ false → not_two_each ≡ true → page_of b c r ≡ refuse 33 0
    is_33 e d =
        by_tests ∙ sym (only_pass refuse (Ok tt) (refuse 33 0) 32 not_groups false _ (sym e) refl
        (only_hit refuse (Ok tt) (refuse 33 0) 33 not_two_each true [] (sym d) refl refl))

    is_done : not_groups ≡ false → not_two_each ≡ false → page_of b c r ≡ Ok tt
    is_done e d =
        by_tests ∙ sym (only_pass refuse (Ok tt) (Ok tt) 32 not_groups false _ (sym e) refl
        (only_pass refuse (Ok tt) (Ok tt) 33 not_two_each false [] (sym d) refl (judge_done refuse (Ok tt) (Ok tt) refl)))

    -- The counts are a whole number of groups, one at least, just where test 32 passes.
    whole_groups : not_groups ≡ false → AreGroups h c (length c / S)
    whole_groups e =
        let f = or_fails (eqb (length c) 0) (not (eqb (length c % S) 0)) e in
        let rest : length c % S ≡ 0 = eqb-true _ _ (not-false _ f.1) in
        let all : length c ≡ length c / S * S = omega (arith, div-add-mod' (length c) S) in
        let empty : length c ≡ 0 → ⊥ = eqb-false _ _ f.0 in (
          by_cases (dec_lt 0 (length c / S)) (λ l. l)
              (λ no. let z : length c / S ≡ 0 = omega arith in absurd (empty (all ∙ ap (λ k. k * S) z ∙ zero-mul S))),
          all,
        )

    groups_whole : (g : ℕ) → AreGroups h c g → (not_groups ≡ false) × (length c / S ≡ g)
    groups_whole g p =
        let few = mul-pos p.0 some in (
          or_none _ _ (ne_eqb (length c) 0 (λ z. omega (arith, p.1)))
              (ap not (eq-eqb (length c % S) 0 (ap (λ k. k % S) p.1 ∙ mul-mod_left g S))),
          ap (λ k. k / S) p.1 ∙ mul-div_cancel g some,
        )

    two-each : (g : ℕ) → AreGroups h c g → (not_two_each ≡ false) ↔ (length r ≡ 2 * g)
    two-each g p =
        let same = (groups_whole g p).1 in (
          λ e. let z : length r ≡ 2 * (length c / S) = eqb-true _ _ (not-false _ e) in omega arith,
          λ e. ap not (eq-eqb (length r) (2 * (length c / S)) (omega arith)),
        )

    refusal_32 : (page_of b c r ≡ refuse 32 0) ↔ ((g : ℕ) → AreGroups h c g → ⊥)
    refusal_32 = (
      λ e g p.
          by_test not_two_each
          (λ d. let z : ◌≡◌ {A = ℕ} 32 33 = ap number_in (sym e ∙ is_33 (groups_whole g p).0 d) in omega arith)
          (λ d. let z : ◌≡◌ {A = ℕ} 32 0 = ap number_in (sym e ∙ is_done (groups_whole g p).0 d) in omega arith),
      λ none. is_32 (is_true _ (λ e. none _ (whole_groups e))),
    )

    refusal_33 : (page_of b c r ≡ refuse 33 0) ↔ ((g : ℕ) × AreGroups h c g × (length r ≡ 2 * g → ⊥))
    refusal_33 = (
      λ e.
          by_test not_groups
          (λ d. absurd (let z : ◌≡◌ {A = ℕ} 33 32 = ap number_in (sym e ∙ is_32 d) in omega arith))
          (λ d.
          let p = whole_groups d in (
            _,
            p,
            λ q. let z : ◌≡◌ {A = ℕ} 33 0 = ap number_in (sym e ∙ is_done d ((two-each _ p).1 q)) in omega arith,
          )),
      λ t. is_33 (groups_whole t.0 t.1).0 (is_true _ (λ e. t.2 ((two-each t.0 t.1).0 e))),
    )

    done_words : (page_of b c r ≡ Ok tt) ↔ ((g : ℕ) × AreGroups h c g × (length r ≡ 2 * g))
    done_words = (
      λ e.
          by_test not_groups
          (λ d. absurd (refused_not_done (sym (is_32 d) ∙ e)))
          (λ d.
          let p = whole_groups d in
          (_, p, (two-each _ p).0 (is_false _ (λ q. refused_not_done (sym (is_33 d q) ∙ e))))),
      λ t. is_done (groups_whole t.0 t.1).0 ((two-each t.0 t.1).1 t.2),
    )

  -- No refusal has the number 0, so none has the code 0.
  one_of : is_one_of (number_or32 (page_of b c r)) page_numbers ≡ true
  unfolding is_one_of
  one_of =
      ap (λ a. is_one_of (number_or32 a) page_numbers) judged
      ∙ judge-number number_or32 refuse (Ok tt) page_numbers (λ n k. refl) refl tests
      (refl, (refl, (refl, (refl, (refl, (refl, (refl, (refl, (refl, (refl, (refl, tt)))))))))))

  code_zero : (a : Result (Unit {0}) Refusal) → is_one_of (number_or32 a) page_numbers ≡ true → answer_code a ≡ 0 → a ≡ Ok tt
  unfolding is_one_of
  code_zero (Ok t) p z = refl
  code_zero (Err q) p z = absurd (not_zero q.number page_numbers p refl (omega arith))

  page_answers : PageAnswers b c r
  unfolding counts_after_page results_after_page page_of
  page_answers = record {
    done_is = done_is;
    refusal_is = refusal_is;
    passed_back = λ q e. ap (by_shape Err _) e;
    refusal_32 = refusal_32;
    refusal_33 = refusal_33;
    done_in_words = done_words;
    unchanged = λ q limit e. (ap (unless_refused c _) e, ap (unless_refused r _) e);
    code = (λ z. code_zero (page_of b c r) one_of z, λ e. ap answer_code e);
    place = λ n k e. tests-place b _ (λ _. (omega arith, (omega arith, tt))) n k ((refusal_is n k).0 e);
  }

-- The answer goes by the lengths of the buffers alone.
by_lengths : (b c c' r r' : List ℕ) → length c' ≡ length c → length r' ≡ length r → page_of b c' r' ≡ page_of b c r
unfolding page_of
by_lengths b c c' r r' e d = rw (e, d)

old_results : (b c r r' : List ℕ) (limit : ℕ) → length r' ≡ length r
    → (page_of b c r' ≡ page_of b c r) × (counts_after_page b c limit r' ≡ counts_after_page b c limit r)
    × (page_of b c r ≡ Ok tt → results_after_page b c limit r' ≡ results_after_page b c limit r)
unfolding counts_after_page results_after_page
old_results b c r r' limit e =
    let same = by_lengths b c c r r' refl e in
    (same, ap (unless_refused c _) same, λ is. ap (unless_refused r' _) (same ∙ is) ∙ sym (ap (unless_refused r _) is))

-- ---- What a call that is done leaves

-- Steps, doubled, plus 1 or not: both are told.
half : (n : ℕ) (t : Bool) → (2 * n + bit t) / 2 ≡ n
half n true = omega arith
half n false = omega arith

odd : (n : ℕ) (t : Bool) → eqb ((2 * n + bit t) % 2) 1 ≡ t
odd n true = eq-eqb ((2 * n + 1) % 2) 1 (omega arith)
odd n false = ne_eqb ((2 * n + 0) % 2) 1 (λ e. omega arith)

module _ (b : List ℕ) (h : Header) (sound : SoundShape b h) (c : List ℕ) (limit : ℕ) (r : List ℕ) (is : page_of b c r ≡ Ok tt) where
  abbrev n : ℕ
  n = h.sizes.states

  -- The counts and the results afterwards.
  abbrev new : List ℕ
  new = counts_after_page b c limit r

  abbrev d : List ℕ
  d = results_after_page b c limit r

  abbrev counts_by : List ℕ → List ℕ
  counts_by y = counts_of b y (run limit)

  abbrev result_by : List ℕ → List ℕ
  result_by y = result_of (reply_of b y (run limit))

  header : (header_of b).sizes.states ≡ n
  header = sym (ap (λ (k : Header). k.sizes.states) sound.header)

  counts_are : new ≡ each_part counts_by n c (length c / n)
  unfolding counts_after_page
  counts_are = ap (unless_refused c _) is ∙ ap (λ k. each_part counts_by k c (length c / k)) header

  results_are : d ≡ each_part result_by n c (length c / n)
  unfolding results_after_page
  results_are = ap (unless_refused r _) is ∙ ap (λ k. each_part result_by k c (length c / k)) header

  counts_long : (y : List ℕ) → length y ≡ n → length (counts_by y) ≡ n
  unfolding run_counts
  counts_long y e = ap length (counts_sound b h sound y (run limit)) ∙ run_length b h limit y ∙ e

  results_long : (y : List ℕ) → length y ≡ n → length (result_by y) ≡ 2
  results_long y e = two_long (reply_of b y (run limit))

  -- The groups are all of the counts, and their results all of the results.
  all_groups : (length c ≡ length c / n * n) × (length r ≡ length c / n * 2)
  all_groups =
      let w = (done_words b c r h sound).0 is in
      let same = (groups_whole b c r h sound w.0 w.1).1 in
      (w.1.1 ∙ ap (λ k. k * n) (sym same), omega (arith, w.2))

  within : length c / n * n ≤ length c
  within = omega (arith, all_groups.0)

  counts_length : length new ≡ length c
  counts_length = ap length counts_are ∙ each-length counts_by n n c counts_long (length c / n) within ∙ sym all_groups.0

  results_length : length d ≡ length r
  results_length = ap length results_are ∙ each-length result_by 2 n c results_long (length c / n) within ∙ sym all_groups.1

  -- Group g.
  module _ (g : ℕ) (l : g < groups_in h c) where
    abbrev P : Protocol
    P = protocol_in b h

    abbrev x : List ℕ
    x = group_in h c g

    abbrev said : Reply
    said = reply_of b x (run limit)

    group_long : length x ≡ n
    group_long = part_length n c g (part_within n (length c) g l)

    sized : is_sized P x ≡ true
    unfolding is_sized
    sized = eq-eqb (length x) n group_long

    left : group_in h new g ≡ counts_by x
    left = ap (λ y. part_at n y g) counts_are ∙ part_of_each counts_by n n c counts_long (length c / n) g l within

    results : part_at 2 d g ≡ result_by x
    results = ap (λ y. part_at 2 y g) results_are ∙ part_of_each result_by 2 n c results_long (length c / n) g l within

    -- The two results, one by one.
    result_at : (i : ℕ) → i < 2 → get_or d (2 * g + i) 0 ≡ get_or (result_by x) i 0
    result_at i j =
        let at : 2 * g + i ≡ g * 2 + i = omega arith in
        ap (λ k. get_or d k 0) at ∙ sym (get_or-drop (g * 2) d i 0)
        ∙ sym (get_or-take 2 (drop (g * 2) d) i 0 j) ∙ ap (λ y. get_or y i 0) results

    first_is : first d g ≡ get_or (result_by x) 0 0
    first_is = ap (λ k. get_or d k 0) (let z : 2 * g ≡ 2 * g + 0 = omega arith in z) ∙ result_at 0 (omega arith)

    second_is : second d g ≡ get_or (result_by x) 1 0
    second_is = result_at 1 (omega arith)

    of_refused : (m k : ℕ) → said ≡ refused m k → (first d g ≡ m) × (second d g ≡ 0)
    of_refused m k e = (first_is ∙ ap (λ a. get_or (result_of a) 0 0) e, second_is ∙ ap (λ a. get_or (result_of a) 1 0) e)

    of_ran : (m : ℕ) (t : Bool) → said ≡ ran m t → (first d g ≡ 0) × (second d g ≡ 2 * m + bit t)
    of_ran m t e = (first_is ∙ ap (λ a. get_or (result_of a) 0 0) e, second_is ∙ ap (λ a. get_or (result_of a) 1 0) e)

    -- A group of another size is refused, by 21.
    outside : is_within x ≡ false → said ≡ refused 21 0
    outside off = ((demand_1 b x).of_run limit).not_within h sound sized off

    -- Any other is run.
    inside : is_within x ≡ true → RunMakes P (layers_in b h) x (reply_of b) (last_on b x) (reported_on b x) [] limit
    unfolding admitted
    inside on = ((calls_on b h sound x).make (and_intro _ _ sized on)).run_makes [] limit

    ran_on : (on : is_within x ≡ true) → said ≡ ran (inside on).steps (inside on).rests
    unfolding last_on
    ran_on on = (inside on).says

    zero_within : first d g ≡ 0 → is_within x ≡ true
    zero_within e = is_true _ (λ off. omega (arith, (of_refused 21 0 (outside off)).0))

    refused_outside : first d g ≡ 21 → is_within x ≡ false
    refused_outside e = is_false _ (λ on. omega (arith, (of_ran _ _ (ran_on on)).0))

    -- The second result of a group that is run.
    told : (on : is_within x ≡ true) → (second d g / 2 ≡ (inside on).steps) × (eqb (second d g % 2) 1 ≡ (inside on).rests)
    told on =
        let e = (of_ran _ _ (ran_on on)).1 in
        let m = (inside on).steps in
        let t = (inside on).rests in
        (ap (λ k. k / 2) e ∙ half m t, ap (λ k. eqb (k % 2) 1) e ∙ odd m t)

    rests_on_lem : (on : is_within x ≡ true) → (inside on).rests ≡ terminal P (group_in h new g)
    unfolding last_on
    rests_on_lem on = (inside on).at_rest ∙ ap (terminal P) (sym left)

    group_runs : GroupRuns b h c limit r g
    group_runs = record {
      left = left;
      of_refused = of_refused;
      of_ran = of_ran;
      refused_is = (refused_outside, λ off. (of_refused 21 0 (outside off)).0);
      not_refused_is = (zero_within, λ on. (of_ran _ _ (ran_on on)).0);
      kept = λ e.
          let said-so = outside (refused_outside e) in
          ((of_refused 21 0 said-so).1, left ∙ (demand_1 b x).unchanged (run limit) 21 0 said-so);
      ran_is = λ e.
          let on = zero_within e in
          ran_on on ∙ ap (λ k. ran k (inside on).rests) (sym (told on).0) ∙ ap (ran (second d g / 2)) (sym (told on).1);
      rests_is = λ e.
          let on = zero_within e in (
            λ q. sym (rests_on_lem on) ∙ sym (told on).1 ∙ eq-eqb _ _ q,
            λ t. eqb-true _ _ ((told on).1 ∙ rests_on_lem on ∙ t),
          );
      limited =
          by_test (is_within x)
          (λ on. omega (arith, (inside on).limited, (told on).0))
          (λ off. omega (arith, (of_refused 21 0 (outside off)).1));
    }

    -- Its steps are the meetings that the run call reports.
    steps_are : second d g / 2 ≡ meetings_of (said)
    unfolding meetings_of
    steps_are =
        by_test (is_within x)
        (λ on. (told on).0 ∙ sym (ap meetings_of (ran_on on)))
        (λ off. ap (λ k. k / 2) (of_refused 21 0 (outside off)).1 ∙ sym (ap meetings_of (outside off)))

  page_runs : PageRuns b h c limit r
  page_runs = record {
    counts_length = counts_length;
    results_length = results_length;
    each = group_runs;
    counts_only = λ y e same. parts-only counts_by n n c y (length c / n) (e ∙ all_groups.0) same ∙ sym counts_are;
    results_only = λ y e same. parts-only result_by 2 n c y (length c / n) (e ∙ all_groups.1) same ∙ sym results_are;
  }

  -- The call is done again on what it left, and there are as many groups.
  again : page_of b new d ≡ Ok tt
  again = by_lengths b c _ r _ counts_length results_length ∙ is

  groups_stay : (g : ℕ) → g < groups_in h c → g < groups_in h new
  groups_stay g l = subst (λ k. g < k / n) (sym counts_length) l

-- ---- Calls in a row

module _ (b : List ℕ) (h : Header) (sound : SoundShape b h) (g : ℕ) where
  pages_left : (limits c r : List ℕ) → page_of b c r ≡ Ok tt → g < groups_in h c
      → group_after b h c r g limits ≡ last_on b (group_in h c g) (map run limits)
  unfolding after_pages last_on
  pages_left [] c r is l = refl
  pages_left (limit ∷ limits) c r is l =
      pages_left limits (counts_after_page b c limit r) (results_after_page b c limit r) (again b h sound c limit r is) (groups_stay b h sound c limit r is g l)
      ∙ ap (λ x. last_on b x (map run limits)) (left b h sound c limit r is g l)

  pages_steps : (limits c r : List ℕ) → page_of b c r ≡ Ok tt → g < groups_in h c
      → steps_on_pages b c r g limits ≡ reported_on b (group_in h c g) (map run limits)
  unfolding steps_on_pages reported_on
  pages_steps [] c r is l = refl
  pages_steps (limit ∷ limits) c r is l =
      let rest =
      pages_steps limits (counts_after_page b c limit r) (results_after_page b c limit r) (again b h sound c limit r is) (groups_stay b h sound c limit r is g l)
      ∙ ap (λ x. reported_on b x (map run limits)) (left b h sound c limit r is g l) in
      omega (arith, steps_are b h sound c limit r is g l, rest)

  pages_run_lem : (c r : List ℕ) → page_of b c r ≡ Ok tt → g < groups_in h c → PagesAreRuns b h c r g
  pages_run_lem c r is l = record { left = λ limits. pages_left limits c r is l; steps = λ limits. pages_steps limits c r is l }

-- ---- Demand 3

module _ (b : List ℕ) (accepted : IsAccepted b) (c r : List ℕ) (is : page_of b c r ≡ Ok tt) (g : ℕ) (l : g < groups_in (header_of b) c) where
  abbrev h : Header
  h = header_of b

  abbrev P₀ : Protocol
  P₀ = protocol_in b h

  abbrev L₀ : Layers
  L₀ = layers_in b h

  abbrev w : ℕ → ℕ → ℕ
  w = weight_in b h

  abbrev y : List ℕ
  y = group_in h c g

  sound₀ : SoundShape b h
  sound₀ = done_sound b c r is

  demand : Demand3 b h y
  demand = (of_docket b).demand_3 accepted y

  long : length y ≡ h.sizes.states
  long = group_long b h sound₀ c 0 r is g l

  as_runs : PagesAreRuns b h c r g
  as_runs = pages_run_lem b h sound₀ g c r is l

  pages_rest : Rests P₀ L₀ w y (group_after b h c r g) (steps_on_pages b c r g) (λ _. true)
  pages_rest =
      let calls = (demand.calls_rest long).rests in
      let in-layers : (limits : List ℕ) → layered P₀ L₀ y (numbers_of P₀ L₀ y (map run limits)) ≡ true = runs_layered P₀ sound₀.sections.partition y in
      record {
        size_kept = λ xs. ap size (as_runs.left xs) ∙ calls.size_kept (map run xs);
        quiet_stays = λ k xs ys _ q.
            subst (QuietBelow P₀ L₀ (suc k)) (ap (last_on b y) (sym (map-append run xs ys)) ∙ sym (as_runs.left (xs ++ ys)))
            (calls.quiet_stays k (map run xs) (map run ys)
            (ap (λ zs. layered P₀ L₀ y (numbers_of P₀ L₀ y zs)) (sym (map-append run xs ys)) ∙ in-layers (xs ++ ys))
            (subst (QuietBelow P₀ L₀ (suc k)) (as_runs.left xs) q));
        rest_bound = λ xs _. omega (arith, as_runs.steps xs, calls.rest_bound (map run xs) (in-layers xs));
        rests = λ xs _ e. ap (terminal P₀) (as_runs.left xs) ∙ calls.rests (map run xs) (in-layers xs) (sym (as_runs.steps xs) ∙ e);
        rank_falls = λ xs _.
            omega (arith, as_runs.steps xs, ap (rank P₀ L₀ w) (as_runs.left xs), calls.rank_falls (map run xs) (in-layers xs));
        rests_by_rank = λ xs _ e. ap (terminal P₀) (as_runs.left xs) ∙ calls.rests_by_rank (map run xs) (in-layers xs) (sym (as_runs.steps xs) ∙ e);
      }

  pages_settle : PagesSettle b h c r g
  unfolding last_on admitted
  pages_settle = record {
    rests = pages_rest;
    enough = λ on limit bound.
        let e = (demand.calls_rest long).enough (and_intro _ _ (sized b h sound₀ c limit r is g l) on) [] limit bound in
        let z = (of_ran b h sound₀ c limit r is g l e.0 true e.1).1 in omega arith;
    one_output = λ len rule xs ys s t.
        let o = demand.calls_one_output len rule (map run xs) (map run ys)
        (ap (terminal P₀) (sym (as_runs.left xs)) ∙ s) (ap (terminal P₀) (sym (as_runs.left ys)) ∙ t) in
        (o.0, subst (Shows P₀ o.0) (sym (as_runs.left xs)) o.1, subst (Shows P₀ o.0) (sym (as_runs.left ys)) o.2);
  }

-- Calls behind calls.
last-append : (b c : List ℕ) (xs ys : List Call) → last_on b c (xs ++ ys) ≡ last_on b (last_on b c xs) ys
unfolding last_on
last-append b c [] ys = refl
last-append b c (x ∷ xs) ys = last-append b (counts_of b c x) xs ys

start_output : (b : List ℕ) → IsAccepted b → (x : List ℕ) → Start (protocol_in b (header_of b)) x → admitted (protocol_in b (header_of b)) x ≡ true
    → StartOutput b (header_of b) x
start_output b accepted x start on =
    let h = header_of b in
    let v = ((of_docket b).demand_3 accepted x).calls_verdict start on in
    record {
      output = v.0;
      on_pages = λ xs c r g limits is l e t.
          let to =
          pages_left b h (done_sound b c r is) g limits c r is l ∙ ap (λ d. last_on b d (map run limits)) e ∙ sym (last-append b x xs (map run limits)) in
          ap (verdict_of b) to ∙ v.1 (xs ++ map run limits) (ap (terminal (protocol_in b h)) (sym to) ∙ t);
      by_calls = v.1;
    }

pub of_page : OfPage
of_page = record {
  answers = page_answers;
  runs = page_runs;
  again = λ b c r limit is. again b (header_of b) (done_sound b c r is) c limit r is;
  old_results = old_results;
  in_a_row = λ b h sound c r is g l. pages_run_lem b h sound g c r is l;
  settles = pages_settle;
  start_output = start_output;
}
