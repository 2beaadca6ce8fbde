-- Laws for the functions of the page. Assumes nothing.
use Rattle.std.specs.Prelude.{◌≡◌, Bool, true, false, not, ◌||◌, eqb, set, Result, Ok, Err}
use Rattle.std.proofs.Math.Path.{refl, sym, ap, fun_ext}
use Rattle.std.proofs.Common.{◌∙◌, zero-mul, eqb-true, drop_of_length-le, drop-drop, take_at}
use mathlib.Core.List.{List, [], ◌∷◌, ◌++◌, append_assoc, append-nil}
use Prim.Native.Nat.{ℕ, suc, ◌+◌, ◌*◌, ◌/◌, ◌%◌, ◌-◌, ◌≤◌, ◌<◌}
use Rattle.std.proofs.Math.Nat.{div-add-mod'}
use native.Mathlib.Omega.{arith}
use Rattle.std.proofs.lemmas.Bool.{not-false}
use Rattle.std.proofs.Math.ListN.{length, take, drop}
use Rattle.std.proofs.lemmas.List.Edits.{sets-eq}
use Rattle.std.proofs.Math.Seq.{drop_at}
use Rattle.theory.specs.Bool.{bit}
use Rattle.theory.proofs.Bool.Laws.{or_fails}
use Rattle.theory.specs.Judge.{only, judge, Passes}
use Rattle.theory.proofs.Judge.Laws.{only_hit, only_pass, judge_done, only_refuses, only_passes}
use Rattle.theory.proofs.Protocol.Lists.{length-after}
use Rattle.theory.specs.Machine.{run, Reply, stepped, ran, refused, reply, counts_after, adds}
use Rattle.format.specs.Format.{header_of, protocol_in, layers_in}
use Rattle.format.specs.declared.Header.{Header}
use Rattle.refusals.specs.declared.Refusal.{Refusal}
use Rattle.refusals.specs.Refusal.{refusal}
use Rattle.refusals.specs.Code.{refused_if}
use Rattle.shape.specs.Shape.{shape_of}
use Rattle.shape.proofs.ShapeLaws.{sound_then, sound_else, tested_passes}
use Rattle.shape.specs.Code.{header_in}
use Rattle.shape.specs.declared.sound.Docket.{Docket}
use Rattle.shape.specs.Sound.{SoundShape}
use Rattle.shape.proofs.SoundLaws.{docket_sound}
use Rattle.machine.specs.Calls.{reply_of, counts_of}
use Rattle.machine.specs.Code.{reply_of_run, Replies}
use Rattle.machine.specs.Code.Laws.{reply_sound, counts_sound}
use Rattle.machine.specs.declared.Ran.{Ran}
use Rattle.page.specs.Page.{part_at, each_part, result_of, page_tests, page_of, by_groups, unless_refused, counts_after_page, results_after_page}
use Rattle.page.proofs.PageLaws.{part_end, part_within, each-length}
use Rattle.page.specs.Code.{page_tested, run_counts, run_result, with_part, up_to, RunUpTo}

-- ---- Tests 32 and 33

-- The last test, whose answer is that of the tests; u says whether it is bad.
last_test : (n : ℕ) (t u : Bool) (x : Result (Unit {0}) Refusal) → u ≡ t → x ≡ refused_if n u → x ≡ judge (λ m k. Err (refusal m k)) (Ok tt) (only n t ∷ [])
last_test n t true x e h = only_hit (λ m k. Err (refusal m k)) (Ok tt) x n t true [] e refl h
last_test n t false x e h = only_pass (λ m k. Err (refusal m k)) (Ok tt) x n t false [] e refl (judge_done (λ m k. Err (refusal m k)) (Ok tt) x h)

-- x is what test 32 finds, and t whether it is bad.
module _ (n counts results : ℕ) (x : Result (Unit {0}) Refusal) (t : Bool) (d : t ≡ (eqb counts 0 || not (eqb (counts % n) 0))) (e : x ≡ refused_if 32 t) where
  pub groups_refused : (r : Refusal) (a : Result (Unit {0}) Refusal) → x ≡ Err r → a ≡ Err r → a ≡ page_tested n counts results
  unfolding page_tested
  groups_refused r a u h = only_refuses refusal (Ok tt) a 32 _ _ x t e d r u h

  pub results_tested : x ≡ Ok tt → (u : Bool) → u ≡ not (eqb results (2 * (counts / n))) → (a : Result (Unit {0}) Refusal) → a ≡ refused_if 33 u
      → a ≡ page_tested n counts results
  unfolding page_tested
  results_tested p u g a h = only_passes refusal (Ok tt) a 32 _ _ x t e d p (last_test 33 _ u a g h)

-- ---- The results of a group

-- Two numbers written at first and second.
module _ (r : List ℕ) (g first second : ℕ) (room : 2 * g + 2 ≤ length r) (e : first ≡ 2 * g) (d : second ≡ first + 1) where
  two_put : (x y : ℕ) → set (set r first x) second y ≡ with_part 2 r g (x ∷ y ∷ [])
  unfolding with_part
  two_put x y =
      let at : first ≡ g * 2 = omega arith in
      let next : second ≡ suc (g * 2) = omega arith in
      let behind : drop (g * 2 + 2) r ≡ drop 2 (drop (g * 2) r) = sym (drop-drop 2 (g * 2) r) in
      rw (next, at)
      (sets-eq (x ∷ y ∷ []) r (g * 2) (omega arith) ∙ append_assoc (take (g * 2) r) (x ∷ y ∷ []) _
      ∙ ap (λ l. take (g * 2) r ++ (x ∷ y ∷ l)) behind)

  pub put_ran : (a : Result Ran Refusal) (o : Ran) (x : ℕ) → a ≡ Ok o → x ≡ 2 * o.steps + bit o.rests
      → set (set r first 0) second x ≡ with_part 2 r g (result_of (reply_of_run a))
  put_ran a o x u v = two_put 0 x ∙ ap (λ k. with_part 2 r g (0 ∷ k ∷ [])) v ∙ ap (λ k. with_part 2 r g (result_of (reply_of_run k))) (sym u)

  pub put_refused : (a : Result Ran Refusal) (q : Refusal) (k : ℕ) → a ≡ Err q → k ≡ q.number
      → set (set r first k) second 0 ≡ with_part 2 r g (result_of (reply_of_run a))
  put_refused a q k u v = two_put k 0 ∙ ap (λ n. with_part 2 r g (n ∷ 0 ∷ [])) v ∙ ap (λ n. with_part 2 r g (result_of (reply_of_run n))) (sym u)

-- ---- The run of one group

-- The run of the part from start to end of the counts xs says a, and leaves ys there.
module _ (b : List ℕ) (h : Header) (limit : ℕ) (xs ys : List ℕ) (g start end : ℕ) (e : start ≡ g * h.sizes.states) (d : end ≡ start + h.sizes.states)
    (said : Reply) (says : Replies (protocol_in b h) (layers_in b h) (take (end - start) (drop start xs)) (run limit) said ys) where
  abbrev n : ℕ
  n = h.sizes.states

  wide : end - start ≡ n
  wide = omega arith

  same_part : take (end - start) (drop start xs) ≡ part_at n xs g
  same_part = rw (wide, e)

  pub group_counts : take start xs ++ (ys ++ drop (end - start) (drop start xs)) ≡ with_part n xs g (run_counts b h limit (part_at n xs g))
  unfolding with_part run_counts
  group_counts =
      rw (wide, e)
      (ap (λ l. take (g * n) xs ++ (l ++ drop n (drop (g * n) xs)))
      (says.leaves ∙ ap (λ l. counts_after (protocol_in b h) (layers_in b h) l (run limit)) same_part))

  pub group_result : (r r' : List ℕ) → r' ≡ with_part 2 r g (result_of said) → r' ≡ with_part 2 r g (run_result b h limit (part_at n xs g))
  unfolding run_result
  group_result r r' u =
      u ∙ ap (λ k. with_part 2 r g (result_of k)) (says.says ∙ ap (λ l. reply (protocol_in b h) (layers_in b h) l (run limit)) same_part)

-- ---- All groups

-- A run keeps the number of counts, and there are always two results.
pub run_length : (b : List ℕ) (h : Header) (limit : ℕ) (d : List ℕ) → length (run_counts b h limit d) ≡ length d
unfolding run_counts counts_after
run_length b h limit d = length-after (protocol_in b h) d (adds (protocol_in b h) (layers_in b h) d (run limit))

pub two_long : (x : Reply) → length (result_of x) ≡ 2
two_long stepped = refl
two_long (ran n rests) = refl
two_long (refused n k) = refl

pub two-results : (b : List ℕ) (h : Header) (limit : ℕ) (d : List ℕ) → length (run_result b h limit d) ≡ 2
unfolding run_result
two-results b h limit d = two_long (reply (protocol_in b h) (layers_in b h) d (run limit))

up_to_none : (f : List ℕ → List ℕ) (m : ℕ) (old : List ℕ) (n : ℕ) (c : List ℕ) → up_to f m old n c 0 ≡ old
unfolding up_to each_part
up_to_none f m old n c = ap (λ k. drop k old) (zero-mul m)

-- f makes parts of m numbers of parts of n numbers.
module _ (f : List ℕ → List ℕ) (m : ℕ) (old : List ℕ) (n : ℕ) (c : List ℕ) (long : (d : List ℕ) → length d ≡ n → length (f d) ≡ m) where
  module _ (g : ℕ) (l : g * n ≤ length c) where
    made : length (each_part f n c g) ≡ g * m
    made = each-length f m n c long g l

    pub up_to-rest : drop (g * m) (up_to f m old n c g) ≡ drop (g * m) old
    unfolding up_to
    up_to-rest = drop_at (each_part f n c g) (drop (g * m) old) (g * m) made

    pub up_to_more : with_part m (up_to f m old n c g) g (f (part_at n c g)) ≡ up_to f m old n c (g + 1)
    unfolding up_to with_part each_part
    up_to_more =
        let next : g + 1 ≡ suc g = omega arith in
        rw next
        (ap (λ x. take (g * m) (up_to f m old n c g) ++ (f (part_at n c g) ++ drop m x)) up_to-rest
        ∙ ap (λ x. x ++ (f (part_at n c g) ++ drop m (drop (g * m) old))) (take_at (each_part f n c g) (drop (g * m) old) (g * m) made)
        ∙ sym (append_assoc (each_part f n c g) (f (part_at n c g)) (drop m (drop (g * m) old)))
        ∙ ap (λ x. (each_part f n c g ++ f (part_at n c g)) ++ x) (drop-drop m (g * m) old ∙ ap (λ k. drop k old) (sym (part_end m g))))

-- The counts c and the results old, of a docket of sound shape.
module _ (b : List ℕ) (h : Header) (limit : ℕ) (c old : List ℕ) where
  abbrev S : ℕ
  S = h.sizes.states

  -- Of a group of S counts the run leaves S counts, and there are two results.
  counts_long : (d : List ℕ) → length d ≡ S → length (run_counts b h limit d) ≡ S
  counts_long d e = run_length b h limit d ∙ e

  results_long : (d : List ℕ) → length d ≡ S → length (run_result b h limit d) ≡ 2
  results_long d e = two-results b h limit d

  pub run_none : RunUpTo b h limit c old 0 c old
  run_none = record {
    counts_are = sym (up_to_none (run_counts b h limit) S c S c);
    results_are = sym (up_to_none (run_result b h limit) 2 old S c);
  }

  module _ (g : ℕ) (counts results : List ℕ) (u : RunUpTo b h limit c old g counts results) (l : g < length c / S) where
    before : g * S ≤ length c
    before = omega (arith, part_within S (length c) g l)

    -- Group g is as it was.
    still : part_at S counts g ≡ part_at S c g
    still = ap (take S) (ap (drop (g * S)) u.counts_are ∙ up_to-rest (run_counts b h limit) S c S c counts_long g before)

    pub run_more : (counts' results' : List ℕ) → counts' ≡ with_part S counts g (run_counts b h limit (part_at S counts g))
        → results' ≡ with_part 2 results g (run_result b h limit (part_at S counts g)) → RunUpTo b h limit c old (g + 1) counts' results'
    run_more counts' results' p q = record {
      counts_are =
          p ∙ ap (λ d. with_part S counts g (run_counts b h limit d)) still ∙ ap (λ x. with_part S x g (run_counts b h limit (part_at S c g))) u.counts_are
          ∙ up_to_more (run_counts b h limit) S c S c counts_long g before;
      results_are =
          q ∙ ap (λ d. with_part 2 results g (run_result b h limit d)) still ∙ ap (λ x. with_part 2 x g (run_result b h limit (part_at S c g))) u.results_are
          ∙ up_to_more (run_result b h limit) 2 old S c results_long g before;
    }

-- ---- The answer

-- A call that is refused by q leaves both buffers.
module _ (b c : List ℕ) (limit : ℕ) (r : List ℕ) (q : Refusal) (is : Err q ≡ page_of b c r) where
  pub kept-counts : c ≡ counts_after_page b c limit r
  unfolding counts_after_page
  kept-counts = ap (unless_refused c _) is

  pub kept-results : r ≡ results_after_page b c limit r
  unfolding results_after_page
  kept-results = ap (unless_refused r _) is

-- s is what tests 1 to 8 find.
module _ (b c r : List ℕ) (s : Result Docket Refusal) (e : header_in s ≡ shape_of b) where
  pub shape_answer : (q : Refusal) → s ≡ Err q → Err q ≡ page_of b c r
  unfolding page_of
  shape_answer q u = sound_else Err _ (Err q) s (shape_of b) e q u refl

  -- The shape is sound, of the docket d; tests 32 and 33 found o.
  module _ (d : Docket) (u : s ≡ Ok d) (o : Result (Unit {0}) Refusal) (f : o ≡ page_tested d.header.sizes.states (length c) (length r)) where
    abbrev N : ℕ
    N = d.header.sizes.states

    pub tests_answer : o ≡ page_of b c r
    unfolding page_of page_tested
    tests_answer =
        sound_then Err (λ h. judge (λ n k. Err (refusal n k)) (Ok tt) (page_tests h.sizes.states (length c) (length r))) o s (shape_of b) e d u f

    module _ (p : o ≡ Ok tt) where
      passes : Passes (page_tests N (length c) (length r))
      unfolding page_tested
      passes = tested_passes refusal (page_tests N (length c) (length r)) (sym f ∙ p)

      -- The counts are a whole number of groups, and there are two results for each.
      whole : length c % N ≡ 0
      whole = eqb-true _ _ (not-false _ (or_fails (eqb (length c) 0) (not (eqb (length c % N) 0)) (passes.0 0 (omega arith))).1)

      pub has_room : length r ≡ 2 * (length c / N)
      has_room = eqb-true _ _ (not-false _ (passes.1.0 0 (omega arith)))

      pub done_answer : Ok tt ≡ page_of b c r
      done_answer = sym p ∙ tests_answer

      -- What is left, the bytes being those of the docket.
      module _ (same : d.bytes.now ≡ b) (limit : ℕ) where
        sound : SoundShape b d.header
        sound = rw same at (docket_sound d)

        -- Nothing stands behind the groups, or behind their results.
        groups_only : (f f' : List ℕ → List ℕ) (m : ℕ) (old : List ℕ) → ((x : List ℕ) → f x ≡ f' x) → length old ≡ length c / N * m
            → up_to f m old N c (length c / N) ≡ by_groups b c f'
        unfolding up_to
        groups_only f f' m old alike k =
            let at : N ≡ (header_of b).sizes.states = ap (λ (x : Header). x.sizes.states) sound.header in
            let made : each_part f N c (length c / N) ≡ by_groups b c f' =
            ap (λ x. each_part x N c (length c / N)) (fun_ext alike) ∙ ap (λ x. each_part f' x c (length c / x)) at in
            ap (λ x. each_part f N c (length c / N) ++ x) (drop_of_length-le old {i = length c / N * m} (omega arith))
            ∙ append-nil (each_part f N c (length c / N)) ∙ made

        pub done_counts : (x : List ℕ) → x ≡ up_to (run_counts d.bytes.now d.header limit) N c N c (length c / N) → x ≡ counts_after_page b c limit r
        unfolding counts_after_page run_counts
        done_counts x y =
            y ∙ ap (λ l. up_to (run_counts l d.header limit) N c N c (length c / N)) same
            ∙ groups_only (run_counts b d.header limit) (λ l. counts_of b l (run limit)) N c (λ l. sym (counts_sound b d.header sound l (run limit)))
            (omega (arith, whole, div-add-mod' (length c) N))
            ∙ ap (unless_refused c _) done_answer

        pub done_results : (x : List ℕ) → x ≡ up_to (run_result d.bytes.now d.header limit) 2 r N c (length c / N) → x ≡ results_after_page b c limit r
        unfolding results_after_page run_result
        done_results x y =
            y ∙ ap (λ l. up_to (run_result l d.header limit) 2 r N c (length c / N)) same
            ∙ groups_only (run_result b d.header limit) (λ l. result_of (reply_of b l (run limit))) 2 r
            (λ l. ap result_of (sym (reply_sound b d.header sound l (run limit)))) (omega (arith, has_room))
            ∙ ap (unless_refused r _) done_answer
