-- Which refusals a call can give, what a refusal of tests 1 to 8 means, and that a refused call changes nothing. Assumes
-- nothing.
use Rattle.refusals.specs.declared.Refusal.{Refusal}
use Rattle.refusals.specs.Refusal.{refusal}
use Rattle.std.specs.Prelude.{◌≡◌, Bool, false, cond, ◌||◌, ◌↔◌, ltb, eqb, Result, Ok, Err, Option, Some, None}
use Rattle.std.proofs.Math.Path.{refl, ap}
use Rattle.std.proofs.Common.{sym, ◌∙◌, true≢false, ⊎_elim, arith}
use Rattle.std.proofs.Math.Bool.{true}
use mathlib.Core.List.{List, [], ◌∷◌, ◌++◌}
use Prim.Native.Nat.{ℕ, zero, suc}
use Rattle.std.proofs.lemmas.Bool.{not-true}
use Rattle.theory.proofs.Bool.Laws.{by_test, or_left, or_right, or_elim}
use Rattle.theory.specs.Judge.{Test, place, judge, FirstFits}
use Rattle.theory.proofs.Judge.Laws.{refused_by, fits_refuses}
use Rattle.theory.specs.Protocol as protocol
use Rattle.theory.specs.Protocol.{Protocol, enabled, terminal, output_of, start_test, after}
use Rattle.theory.proofs.Protocol.Lists.{tried_not}
use Rattle.theory.specs.Pairs.{pairs}
use Rattle.theory.specs.Ladder.{Layers}
use Rattle.theory.specs.Facts.{Facts, fresh}
use Rattle.theory.specs.Tree as theory
use Rattle.theory.specs.Tree.{Walked, next, Tree, Assumption, disagreement, refusal_number, forest, children, ground, node, tree_at, tree_answer}
use Rattle.theory.specs.Tree.{Node}
use Rattle.theory.proofs.Subtree.Laws.{by_fields}
use Rattle.theory.specs.Machine.{Call, step, run, Reply, stepped, ran, refused, is_refused, is_sized, is_within, admitted, admit}
use Rattle.theory.specs.Machine.{step_reply, run_reply, reply, counts_after}
use Rattle.theory.proofs.Machine.Laws.{adds_off, adds_on, reply_step, reply_run, step_refused}
use Rattle.format.specs.Format.{header_of, sections_of, protocol_in, layers_in, tree_of, weights_of}
use Rattle.format.specs.declared.Header.{Header}
use Rattle.shape.specs.Shape.{shape_tests, header_shape, shape_of, by_shape}
use Rattle.checker.specs.Check.{certificate_tests, walk_of, summary_of, tree_check, sections_check, check_of}
use Rattle.checker.specs.declared.Summary.{Summary}
use Rattle.machine.specs.Calls.{start_answer, pairs_answer, terminal_answer, verdict_as, verdict_answer}
use Rattle.machine.specs.Calls.{start_of, pairs_of, terminal_of, verdict_of, reply_of, counts_of}
use Rattle.claims.specs.OfDocket.{pass_back}

unfoldable pub is_one_of : ℕ → List ℕ → Bool
is_one_of n [] = false
is_one_of n (m ∷ ms) = eqb n m || is_one_of n ms

-- The refusals of tests 1 to 8, of the check, and of every machine call.
abbrev pub shape_numbers : List ℕ
shape_numbers = 1 ∷ 2 ∷ 3 ∷ 4 ∷ 5 ∷ 6 ∷ 7 ∷ 14 ∷ 8 ∷ []

abbrev pub check_numbers : List ℕ
check_numbers = shape_numbers ++ 9 ∷ 10 ∷ 11 ∷ 12 ∷ 13 ∷ []

abbrev pub call_numbers : List ℕ
call_numbers = shape_numbers ++ 20 ∷ 21 ∷ []

-- The number of a refusal. An answer that is no refusal counts as 1 here, so that the laws below speak of every answer.
abbrev pub shape_number : Result Header Refusal → ℕ
shape_number (Ok h) = 1
shape_number (Err r) = r.number

abbrev pub walk_number : Walked → ℕ
walk_number (next j) = 12
walk_number (theory.refused n k) = n

abbrev pub check_number : Result Summary Refusal → ℕ
check_number (Ok f) = 1
check_number (Err r) = r.number

abbrev pub start_number : Result (Unit {0}) Refusal → ℕ
start_number (Ok t) = 1
start_number (Err r) = r.number

abbrev pub pairs_number : Result ℕ Refusal → ℕ
pairs_number (Ok n) = 1
pairs_number (Err r) = r.number

abbrev pub answer_number : Result Bool Refusal → ℕ
answer_number (Ok t) = 1
answer_number (Err r) = r.number

abbrev pub verdict_number : Result (Option Bool) Refusal → ℕ
verdict_number (Ok (Some v)) = 1
verdict_number (Ok None) = 1
verdict_number (Err r) = r.number

abbrev pub reply_number : Reply → ℕ
reply_number stepped = 1
reply_number (ran n rests) = 1
reply_number (refused n k) = n

-- More numbers behind those of the shape.
front : (n : ℕ) (ms ns : List ℕ) → is_one_of n ms ≡ true → is_one_of n (ms ++ ns) ≡ true
unfolding is_one_of
front n [] ns h = absurd (true≢false (sym h))
front n (m ∷ ms) ns h = ⊎_elim (λ e. or_left (eqb n m) _ e) (λ e. or_right (eqb n m) _ (front n ms ns e)) (or_elim (eqb n m) (is_one_of n ms) h)

-- The number of a judgement is that of one of its tests.
abbrev pub Numbers : List Test → List ℕ → Type 0
Numbers [] ns = Unit {0}
Numbers (t ∷ ts) ns = (is_one_of t.number ns ≡ true) × Numbers ts ns

pub judge-number : {A : Type 0} (number : A → ℕ) (refuse : ℕ → ℕ → A) (pass : A) (ns : List ℕ)
    → ((n k : ℕ) → number (refuse n k) ≡ n) → is_one_of (number pass) ns ≡ true
    → (ts : List Test) → Numbers ts ns → is_one_of (number (judge refuse pass ts)) ns ≡ true
unfolding judge
judge-number number refuse pass ns is p [] all = p
judge-number number refuse pass ns is p (t ∷ ts) all =
    by_test (ltb (place t) t.places)
    (λ l. rw (l, judge) (ap (λ n. is_one_of n ns) (is t.number (place t)) ∙ all.0))
    (λ l. rw (l, judge) (judge-number number refuse pass ns is p ts all.1))

pub shape_number_lem : (b : List ℕ) → is_one_of (shape_number (shape_of b)) shape_numbers ≡ true
unfolding shape_of header_shape is_one_of
shape_number_lem b =
    judge-number shape_number (λ n k. Err (refusal n k)) (Ok (header_of b)) shape_numbers (λ n k. refl) refl
    (shape_tests b (header_of b)) (refl, (refl, (refl, (refl, (refl, (refl, (refl, (refl, (refl, tt)))))))))

-- A refusal of tests 1 to 8 is the first of them that fits.
place_in : Result Header Refusal → ℕ
place_in (Ok h) = 0
place_in (Err r) = r.place

pub shape_refusal_is : (b : List ℕ) (n k : ℕ) → (shape_of b ≡ Err (refusal n k)) ↔ FirstFits (shape_tests b (header_of b)) n k
unfolding shape_of header_shape place_in
shape_refusal_is b n k =
    let refuse : ℕ → ℕ → Result Header Refusal = λ n k. Err (refusal n k) in
    let ts = shape_tests b (header_of b) in
    let sound = Ok (header_of b) in (
      λ e.
          ⊎_elim (λ f. f) (λ p. absurd (let z : ◌≡◌ {A = ℕ} 0 1 = cc p.1 in omega arith))
          (refused_by refuse sound (λ n k m j q. (ap shape_number q, ap place_in q)) ts n k e),
      fits_refuses refuse sound ts n k,
    )

-- ---- The machine calls

-- A choice by a test.
either : {A : Type 0} (number : A → ℕ) (t : Bool) (x y : A) (ns : List ℕ)
    → is_one_of (number x) ns ≡ true → is_one_of (number y) ns ≡ true → is_one_of (number (cond t x y)) ns ≡ true
either number true x y ns p q = p
either number false x y ns p q = q

module _ (b c : List ℕ) where
  -- A call makes tests 1 to 8, then those of the counts, then answers f.
  module _ {A : Type 0} (number : A → ℕ) (refuse : Refusal → A) (f : Header → A) (ns : List ℕ) where
    abbrev answer_by : Result Header Refusal → A
    answer_by = by_shape refuse (λ h. admit (protocol_in b h) c (λ n. refuse (refusal n 0)) (f h))

    abbrev OneOf : A → Type 0
    OneOf a = is_one_of (number a) (call_numbers ++ ns) ≡ true

    call_number : ((r : Refusal) → number (refuse r) ≡ r.number) → ((h : Header) → OneOf (f h)) → OneOf (answer_by (shape_of b))
    unfolding admit is_one_of
    call_number is all = go (shape_of b) (shape_number_lem b)
      where
        to : (r : Refusal) → is_one_of r.number (call_numbers ++ ns) ≡ true → OneOf (refuse r)
        to r p = ap (λ i. is_one_of i (call_numbers ++ ns)) (is r) ∙ p

        go : (s : Result Header Refusal) → is_one_of (shape_number s) shape_numbers ≡ true → OneOf (answer_by s)
        go (Ok h) p =
            either number (is_sized (protocol_in b h) c) _ (refuse (refusal 20 0)) (call_numbers ++ ns)
            (either number (is_within c) (f h) (refuse (refusal 21 0)) (call_numbers ++ ns) (all h) (to (refusal 21 0) refl))
            (to (refusal 20 0) refl)
        go (Err r) p = to r (front r.number shape_numbers (20 ∷ 21 ∷ ns) p)

  pub start_number_lem : is_one_of (start_number (start_of b c)) (call_numbers ++ 22 ∷ []) ≡ true
  unfolding start_of start_answer is_one_of
  start_number_lem =
      call_number start_number Err _ (22 ∷ []) (λ r. refl)
      (λ h.
      let P = protocol_in b h in
      either start_number (ltb (start_test P c) P.states) (Err (refusal 22 (start_test P c))) (Ok tt) (call_numbers ++ 22 ∷ []) refl refl)

  pub pairs-number : (r : ℕ) → is_one_of (pairs_number (pairs_of b c r)) (call_numbers ++ 23 ∷ []) ≡ true
  unfolding pairs_of pairs_answer is_one_of
  pairs-number r =
      call_number pairs_number Err _ (23 ∷ []) (λ r. refl)
      (λ h.
      let P = protocol_in b h in
      either pairs_number (ltb r P.rules) (Ok (pairs P c r)) (Err (refusal 23 r)) (call_numbers ++ 23 ∷ []) refl refl)

  pub terminal-number : is_one_of (answer_number (terminal_of b c)) call_numbers ≡ true
  unfolding terminal_of terminal_answer is_one_of
  terminal-number = call_number answer_number Err (λ h. Ok (terminal (protocol_in b h) c)) [] (λ r. refl) (λ h. refl)

  shown_number : (v : protocol.Output) → verdict_number (Ok (verdict_as v)) ≡ 1
  shown_number (protocol.agreed v) = refl
  shown_number protocol.mixed = refl

  pub verdict_number_lem : is_one_of (verdict_number (verdict_of b c)) call_numbers ≡ true
  unfolding verdict_of verdict_answer is_one_of
  verdict_number_lem =
      call_number verdict_number Err (λ h. Ok (verdict_as (output_of (protocol_in b h) c))) [] (λ r. refl)
      (λ h. ap (λ n. is_one_of n call_numbers) (shown_number (output_of (protocol_in b h) c)))

  pub step_number : (r : ℕ) → is_one_of (reply_number (reply_of b c (step r))) (call_numbers ++ 23 ∷ 24 ∷ []) ≡ true
  unfolding reply_of reply step_reply is_one_of
  step_number r =
      call_number reply_number (pass_back b c) (λ h. step_reply (protocol_in b h) c r) (23 ∷ 24 ∷ []) (λ r. refl)
      (λ h.
      let P = protocol_in b h in
      let ns = call_numbers ++ 23 ∷ 24 ∷ [] in
      either reply_number (ltb r P.rules) _ (refused 23 r) ns (either reply_number (enabled P c r) stepped (refused 24 r) ns refl refl) refl)

  pub run_number : (limit : ℕ) → is_one_of (reply_number (reply_of b c (run limit))) call_numbers ≡ true
  unfolding reply_of reply run_reply is_one_of
  run_number limit = call_number reply_number (pass_back b c) (λ h. run_reply (protocol_in b h) (layers_in b h) c limit) [] (λ r. refl) (λ h. refl)

-- ---- The tree

module _ (ns : List ℕ) (p : is_one_of 12 ns ≡ true) (q : is_one_of 13 ns ≡ true) where
  node-number : (n : Node) → is_one_of (refusal_number n) ns ≡ true
  node-number n = by_fields n (λ _ e. rw e p) (λ _ e. rw e q)

  forest-number : (t : Facts → ℕ → Walked) → ((F : Facts) (i : ℕ) → is_one_of (walk_number (t F i)) ns ≡ true)
      → (Fs : List Facts) (i : ℕ) → is_one_of (walk_number (forest t Fs i)) ns ≡ true
  unfolding forest
  forest-number t all [] i = p
  forest-number t all (F ∷ Fs) i = go (forest-number t all Fs) (t F i) refl
    where
      go : ((j : ℕ) → is_one_of (walk_number (forest t Fs j)) ns ≡ true) → (a : Walked) → t F i ≡ a → is_one_of (walk_number (forest t (F ∷ Fs) i)) ns ≡ true
      go rest (next j) e = rw (e, forest) (rest j)
      go rest (theory.refused n k) e = rw (e, forest) (sym (ap (λ a. is_one_of (walk_number a) ns) e) ∙ all F i)

  module _ (P : Protocol) (H : Assumption) (T : Tree) where
    walk-number : (d : ℕ) (F : Facts) (i : ℕ) → is_one_of (walk_number (tree_at P H T d F i)) ns ≡ true
    unfolding tree_at
    walk-number zero F i = p
    walk-number (suc d) F i =
        by_test (ltb i T.nodes)
        (λ e. by_test (ground P H F (node P H T i))
        (λ g. rw (e, g, tree_at) (forest-number (tree_at P H T d) (walk-number d) (children P F (node P H T i)) (suc i)))
        (λ g. rw (e, g, tree_at) (node-number (node P H T i))))
        (λ e. rw (e, tree_at) p)

    pub tree-number : is_one_of (walk_number (tree_answer P H T)) ns ≡ true
    unfolding tree_answer
    tree-number = go (tree_at P H T 40 (fresh P) 0) refl
      where
        go : (a : Walked) → tree_at P H T 40 (fresh P) 0 ≡ a → is_one_of (walk_number (tree_answer P H T)) ns ≡ true
        go (next j) e = by_test (eqb j T.nodes) (λ t. rw (e, t, tree_answer) p) (λ t. rw (e, t, tree_answer) p)
        go (theory.refused n k) e = rw (e, tree_answer) (sym (ap (λ a. is_one_of (walk_number a) ns) e) ∙ walk-number 40 (fresh P) 0)

-- ---- The check

tree-check : (f : Summary) (a : Walked) → is_one_of (walk_number a) check_numbers ≡ true → is_one_of (check_number (tree_check f a)) check_numbers ≡ true
unfolding is_one_of
tree-check f (next j) p = refl
tree-check f (theory.refused n k) p = p

sections-number : (b : List ℕ) (h : Header) → is_one_of (check_number (sections_check h.sizes (sections_of b h))) check_numbers ≡ true
unfolding sections_check is_one_of
sections-number b h =
    let x = sections_of b h in
    let P = protocol_in b h in
    judge-number check_number (λ n k. Err (refusal n k)) _ check_numbers (λ n k. refl)
    (tree-check (summary_of h.sizes x) (walk_of h.sizes x)
    (tree-number check_numbers refl refl P (disagreement P (weights_of h.sizes x.leaves)) (tree_of h.sizes x.nodes)))
    (certificate_tests h.sizes x) (refl, (refl, (refl, tt)))

pub check-number : (b : List ℕ) → is_one_of (check_number (check_of b)) check_numbers ≡ true
unfolding check_of
check-number b = go (shape_of b) (shape_number_lem b)
  where
    go : (s : Result Header Refusal) → is_one_of (shape_number s) shape_numbers ≡ true
        → is_one_of (check_number (by_shape Err (λ h. sections_check h.sizes (sections_of b h)) s)) check_numbers ≡ true
    go (Ok h) p = sections-number b h
    go (Err r) p = front r.number shape_numbers (9 ∷ 10 ∷ 11 ∷ 12 ∷ 13 ∷ []) p

-- ---- A refused step or run leaves the counts

pub not_refused : (a : Reply) (n k : ℕ) → is_refused a ≡ false → a ≡ refused n k → ⊥
unfolding is_refused
not_refused a n k off e = true≢false (sym (ap is_refused e) ∙ off)

unchanged_on : (P : Protocol) (L : Layers) (c : List ℕ) (x : Call) (n k : ℕ) → reply P L c x ≡ refused n k → counts_after P L c x ≡ c
unfolding counts_after after is_refused run_reply
unchanged_on P L c x n k e = by_test (admitted P c) (on x e) (λ off. ap (after P c) (adds_off P L c x off))
  where
    on : (x : Call) → reply P L c x ≡ refused n k → admitted P c ≡ true → counts_after P L c x ≡ c
    on (step r) e a =
        ap (after P c) (adds_on P L c (step r) a)
        ∙ tried_not P c r (not-true _ (sym (step_refused P c r) ∙ ap is_refused (sym (reply_step P L c r a) ∙ e)))
    on (run limit) e a = absurd (not_refused _ n k refl (sym (reply_run P L c limit a) ∙ e))

pub unchanged : (b c : List ℕ) (x : Call) (n k : ℕ) → reply_of b c x ≡ refused n k → counts_of b c x ≡ c
unfolding reply_of counts_of
unchanged b c x n k e = go (shape_of b) e
  where
    go : (s : Result Header Refusal) → by_shape (pass_back b c) (λ h. reply (protocol_in b h) (layers_in b h) c x) s ≡ refused n k
        → by_shape (λ _. c) (λ h. counts_after (protocol_in b h) (layers_in b h) c x) s ≡ c
    go (Ok h) u = unchanged_on (protocol_in b h) (layers_in b h) c x n k u
    go (Err r) u = refl
