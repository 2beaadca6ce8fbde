-- The numbers that C sees tell the answers. Assumes nothing.
use Rattle.checker.specs.declared.Summary.{Summary}
use Rattle.refusals.specs.declared.Refusal.{Refusal}
use Rattle.refusals.specs.Refusal.{refusal}
use Rattle.std.specs.Prelude.{◌≡◌, Bool, cond, List, [], ◌∷◌, ◌++◌, ◌↔◌, ◌⊎◌, ℕ, ◌≤◌, ◌<◌, ltb, Result, Ok, Err, Option, Some, None}
use Rattle.std.proofs.Math.Path.{refl}
use Rattle.std.proofs.Common.{sym, ap, ◌∙◌, subst, true≢false, append-nil, inr, ⊎_elim}
use Rattle.std.proofs.Math.Bool.{true, false}
use Rattle.std.proofs.Math.Logic.{inl}
use native.Mathlib.Omega.{arith}
use borrow.Author.Tests.{ltb-true}
use Rattle.theory.proofs.Bool.Laws.{by_test}
use Rattle.theory.specs.Judge.{Test, FirstFits}
use Rattle.theory.proofs.Judge.Laws.{fits_split, fits_none}
use Rattle.theory.specs.Protocol as protocol
use Rattle.theory.specs.Protocol.{enabled, terminal, output_of, start_test}
use Rattle.theory.proofs.Subtree.Laws.{place-within}
use Rattle.theory.specs.Machine.{Call, step, run, Reply, stepped, ran, refused, is_sized, is_within, admit, step_reply, run_reply, reply}
use Rattle.format.specs.Format.{header_of, sections_of, protocol_in, layers_in}
use Rattle.format.specs.declared.Header.{Header}
use Rattle.shape.specs.Shape.{shape_tests, shape_of, by_shape}
use Rattle.shape.specs.Sound.{Limits, SoundShape}
use Rattle.shape.proofs.SoundLaws.{limits, sound_shape}
use Rattle.checker.specs.Check.{certificate_tests, check_of}
use Rattle.machine.specs.Calls.{start_answer, pairs_answer, terminal_answer, verdict_as, verdict_answer}
use Rattle.machine.specs.Calls.{start_of, pairs_of, terminal_of, verdict_of, reply_of}
use Rattle.codes.specs.Codes.{check_code, answer_code, reply_code}
use Rattle.claims.specs.OfDocket.{pass_back, CodesTell}
use Rattle.claims.proofs.OfDocket.Numbers.{is_one_of, check_numbers, call_numbers}
use Rattle.claims.proofs.OfDocket.Numbers.{check_number, start_number, pairs_number, answer_number, verdict_number, reply_number}
use Rattle.claims.proofs.OfDocket.Numbers.{check-number, start_number_lem, pairs-number, terminal-number, verdict_number_lem, step_number, run_number}
use Rattle.claims.proofs.OfDocket.Numbers.{shape_refusal_is}
use Rattle.claims.proofs.OfDocket.Refusals.{refusal_is}

-- ---- No refusal has the number 0, so none has the code 0

-- n is one of the numbers ns, of which 0 is none.
pub not_zero : (n : ℕ) (ns : List ℕ) → is_one_of n ns ≡ true → is_one_of 0 ns ≡ false → n ≡ 0 → ⊥
not_zero n ns p q e = true≢false (sym p ∙ ap (λ m. is_one_of m ns) e ∙ q)

check_zero : (a : Result Summary Refusal) → is_one_of (check_number a) check_numbers ≡ true → (check_code a ≡ 0) → (f : _) × (a ≡ Ok f)
unfolding is_one_of
check_zero (Ok f) p e = (f, refl)
check_zero (Err r) p e = absurd (not_zero r.number check_numbers p refl (omega arith))

start_zero : (a : Result (Unit {0}) Refusal) → is_one_of (start_number a) (call_numbers ++ 22 ∷ []) ≡ true → answer_code a ≡ 0 → a ≡ Ok tt
unfolding is_one_of
start_zero (Ok t) p e = refl
start_zero (Err r) p e = absurd (not_zero r.number (call_numbers ++ 22 ∷ []) p refl (omega arith))

pairs_zero : (a : Result ℕ Refusal) → is_one_of (pairs_number a) (call_numbers ++ 23 ∷ []) ≡ true → answer_code a ≡ 0 → (n : ℕ) × (a ≡ Ok n)
unfolding is_one_of
pairs_zero (Ok n) p e = (n, refl)
pairs_zero (Err r) p e = absurd (not_zero r.number (call_numbers ++ 23 ∷ []) p refl (omega arith))

yes_no_zero : (a : Result Bool Refusal) → is_one_of (answer_number a) call_numbers ≡ true → answer_code a ≡ 0 → (t : Bool) × (a ≡ Ok t)
unfolding is_one_of
yes_no_zero (Ok t) p e = (t, refl)
yes_no_zero (Err r) p e = absurd (not_zero r.number call_numbers p refl (omega arith))

verdict_zero : (a : Result (Option Bool) Refusal) → is_one_of (verdict_number a) call_numbers ≡ true → (answer_code a ≡ 0) ↔ ((r : Refusal) → a ≡ Err r → ⊥)
unfolding is_one_of
verdict_zero (Ok (Some v)) p = (λ e r q. let z : ◌≡◌ {A = ℕ} 0 1 = cc in omega arith, λ _. refl)
verdict_zero (Ok None) p = (λ e r q. let z : ◌≡◌ {A = ℕ} 0 1 = cc in omega arith, λ _. refl)
verdict_zero (Err r) p = (λ e _ _. not_zero r.number call_numbers p refl (omega arith), λ none. absurd (none r refl))

reply_zero : (ns : List ℕ) → is_one_of 0 ns ≡ false → (a : Reply) → is_one_of (reply_number a) ns ≡ true
    → (reply_code a ≡ 0) ↔ ((n k : ℕ) → a ≡ refused n k → ⊥)
reply_zero ns z stepped p = (λ e n k q. let y : ◌≡◌ {A = ℕ} 0 1 = cc in omega arith, λ _. refl)
reply_zero ns z (ran m t) p = (λ e n k q. let y : ◌≡◌ {A = ℕ} 0 1 = cc in omega arith, λ _. refl)
reply_zero ns z (refused m j) p = (λ e _ _ _. not_zero m ns p z (omega arith), λ none. absurd (none m j refl))

-- ---- Places of the check

-- No test has more than m places.
abbrev pub PlacesMost : ℕ → List Test → Type 0
PlacesMost m [] = Unit {0}
PlacesMost m (t ∷ ts) = (t.places ≤ m) × PlacesMost m ts

pub fits-place : (m n k : ℕ) (ts : List Test) → PlacesMost m ts → FirstFits ts n k → k < m
fits-place m n k [] p f = absurd (fits_none n k f)
fits-place m n k (t ∷ ts) p f = ⊎_elim (λ h. omega (arith, h.1, p.0)) (λ s. fits-place m n k ts p.1 s.1) (fits_split t ts n k f)

-- Tests 1 to 8, and then tests vs, which have few places where the counts are within their limits.
pub tests-place : (b : List ℕ) (vs : List Test) → let h = header_of b in (Limits h.sizes → PlacesMost 65536 vs)
    → (n k : ℕ) → FirstFits (shape_tests b h ++ vs) n k → k < 65536
tests-place b vs few n k f =
    let h = header_of b in
    ⊎_elim (λ g. omega (arith, g.1)) (λ s1.
    ⊎_elim (λ g. omega (arith, g.1)) (λ s2.
    ⊎_elim (λ g. omega (arith, g.1)) (λ s3.
    let l : Limits h.sizes = limits h.sizes s3.0 in
    fits-place 65536 n k _ (
      omega arith,
      (
        omega (arith, l.states_most),
        (
          omega (arith, l.rules_most),
          (
            omega (arith, l.rules_most),
            (
              omega (arith, l.rules_most),
              (omega (arith, l.layers_most), few l),
            ),
          ),
        ),
      ),
    )
    s3.1)
    (fits_split _ _ n k s2.1))
    (fits_split _ _ n k s1.1))
    (fits_split _ _ n k f)

check_place : (b : List ℕ) (n k : ℕ) → check_of b ≡ Err (refusal n k) → k < 65536
check_place b n k e =
    let h = header_of b in
    ⊎_elim
    (tests-place b (certificate_tests h.sizes (sections_of b h))
    (λ l. (omega (arith, l.rules_most), (omega (arith, l.rules_most), (omega (arith, l.leaves_most), tt)))) n k)
    (λ p. omega (arith, place-within _ _ _ n k p.1, (limits h.sizes p.0.1.1.0).nodes_most))
    ((refusal_is b n k).0 e)

-- ---- Places of the calls

shape_place : (b : List ℕ) (r : Refusal) → shape_of b ≡ Err r → r.place < 65536
shape_place b r e =
    tests-place b [] (λ _. tt) r.number r.place
    (subst (λ ts. FirstFits ts r.number r.place) (sym (append-nil (shape_tests b (header_of b)))) ((shape_refusal_is b r.number r.place).0 e))

-- What holds of refusals at places below 65,536, and of what a call says of counts that pass, holds of its answer.
module _ (b c : List ℕ) {A : Type 0} (refuse : Refusal → A) (f : Header → A) (Q : A → Type 0) where
  by_answer : ((r : Refusal) → r.place < 65536 → Q (refuse r)) → ((h : Header) → SoundShape b h → Q (f h))
      → Q (by_shape refuse (λ h. admit (protocol_in b h) c (λ n. refuse (refusal n 0)) (f h)) (shape_of b))
  unfolding admit
  by_answer small own = go (shape_of b) refl
    where
      on : (h : Header) → SoundShape b h → (s t : Bool) → Q (cond s (cond t (f h) (refuse (refusal 21 0))) (refuse (refusal 20 0)))
      on h sound true true = own h sound
      on h sound true false = small (refusal 21 0) (omega arith)
      on h sound false t = small (refusal 20 0) (omega arith)

      go : (s : Result Header Refusal) → shape_of b ≡ s → Q (by_shape refuse (λ h. admit (protocol_in b h) c (λ n. refuse (refusal n 0)) (f h)) s)
      go (Ok h) e = on h (sound_shape b h e) (is_sized (protocol_in b h) c) (is_within c)
      go (Err r) e = small r (shape_place b r e)

-- The place of an answer, 0 where it is no refusal.
abbrev place_of_start : Result (Unit {0}) Refusal → ℕ
place_of_start (Ok t) = 0
place_of_start (Err r) = r.place

abbrev pairs_place : Result ℕ Refusal → ℕ
pairs_place (Ok n) = 0
pairs_place (Err r) = r.place

abbrev answer_place : Result Bool Refusal → ℕ
answer_place (Ok t) = 0
answer_place (Err r) = r.place

abbrev place_of_verdict : Result (Option Bool) Refusal → ℕ
place_of_verdict (Ok (Some v)) = 0
place_of_verdict (Ok None) = 0
place_of_verdict (Err r) = r.place

abbrev reply_place : Reply → ℕ
reply_place stepped = 0
reply_place (ran n rests) = 0
reply_place (refused n k) = k

module _ (b c : List ℕ) where
  start_place : place_of_start (start_of b c) < 65536
  unfolding start_of start_answer
  start_place =
      by_answer b c Err _ (λ a. place_of_start a < 65536) (λ r l. l)
      (λ h sound.
      let P = protocol_in b h in
      by_test (ltb (start_test P c) P.states)
      (λ e. rw e (omega (arith, ltb-true (start_test P c) P.states e, sound.limits.states_most)))
      (λ e. rw e (omega arith)))

  can_act_place : (r : ℕ) → (pairs_place (pairs_of b c r) < 65536) ⊎ (pairs_place (pairs_of b c r) ≡ r)
  unfolding pairs_of pairs_answer
  can_act_place r =
      by_answer b c Err _ (λ a. (pairs_place a < 65536) ⊎ (pairs_place a ≡ r)) (λ q l. inl l)
      (λ h sound. by_test (ltb r h.sizes.rules) (λ e. rw e (inl (omega arith))) (λ e. rw e (inr refl)))

  standstill_place : answer_place (terminal_of b c) < 65536
  unfolding terminal_of terminal_answer
  standstill_place =
      by_answer b c Err (λ h. Ok (terminal (protocol_in b h) c)) (λ a. answer_place a < 65536) (λ r l. l) (λ h sound. omega arith)

  verdict_place : place_of_verdict (verdict_of b c) < 65536
  unfolding verdict_of verdict_answer
  verdict_place =
      by_answer b c Err (λ h. Ok (verdict_as (output_of (protocol_in b h) c))) (λ a. place_of_verdict a < 65536) (λ r l. l)
      (λ h sound. own (output_of (protocol_in b h) c))
    where
      own : (v : protocol.Output) → place_of_verdict (Ok (verdict_as v)) < 65536
      own (protocol.agreed v) = omega arith
      own protocol.mixed = omega arith

  step_place : (r : ℕ) → (reply_place (reply_of b c (step r)) < 65536) ⊎ (reply_place (reply_of b c (step r)) ≡ r)
  unfolding reply_of reply step_reply
  step_place r =
      by_answer b c (pass_back b c) (λ h. step_reply (protocol_in b h) c r) (λ a. (reply_place a < 65536) ⊎ (reply_place a ≡ r)) (λ q l. inl l)
      (λ h sound.
      by_test (ltb r h.sizes.rules)
      (λ e. by_test (enabled (protocol_in b h) c r) (λ f. rw (e, f) (inl (omega arith))) (λ f. rw (e, f) (inr refl)))
      (λ e. rw e (inr refl)))

  run_place : (limit : ℕ) → reply_place (reply_of b c (run limit)) < 65536
  unfolding reply_of reply run_reply
  run_place limit =
      by_answer b c (pass_back b c) (λ h. run_reply (protocol_in b h) (layers_in b h) c limit) (λ a. reply_place a < 65536) (λ r l. l)
      (λ h sound. omega arith)

  call_place : (x : Call) (n k : ℕ) → reply_of b c x ≡ refused n k → (k < 65536) ⊎ (x ≡ step k)
  call_place (step r) n k e =
      let is : reply_place (reply_of b c (step r)) ≡ k = ap reply_place e in
      ⊎_elim (λ l. inl (omega arith)) (λ q. inr (ap step (sym q ∙ is))) (step_place r)
  call_place (run limit) n k e = let is : reply_place (reply_of b c (run limit)) ≡ k = ap reply_place e in inl (omega (arith, run_place limit))

call_zero : (b c : List ℕ) (x : Call) → (reply_code (reply_of b c x) ≡ 0) ↔ ((n k : ℕ) → reply_of b c x ≡ refused n k → ⊥)
unfolding is_one_of
call_zero b c (step r) = reply_zero (call_numbers ++ 23 ∷ 24 ∷ []) refl (reply_of b c (step r)) (step_number b c r)
call_zero b c (run limit) = reply_zero call_numbers refl (reply_of b c (run limit)) (run_number b c limit)

pub codes_tell : (b c : List ℕ) → CodesTell b c
unfolding is_one_of
codes_tell b c = record {
  check = (check_zero (check_of b) (check-number b), λ a. ap check_code a.1);
  start = (start_zero (start_of b c) (start_number_lem b c), λ e. ap answer_code e);
  can_act = λ r. (pairs_zero (pairs_of b c r) (pairs-number b c r), λ s. ap answer_code s.1);
  standstill = (yes_no_zero (terminal_of b c) (terminal-number b c), λ s. ap answer_code s.1);
  verdict = verdict_zero (verdict_of b c) (verdict_number_lem b c);
  of_call = call_zero b c;
  check_place = check_place b;
  start_place = λ n k e. let is : place_of_start (start_of b c) ≡ k = ap place_of_start e in omega (arith, start_place b c);
  can_act_place = λ r n k e.
      let is : pairs_place (pairs_of b c r) ≡ k = ap pairs_place e in
      ⊎_elim (λ l. inl (omega arith)) (λ q. inr (sym is ∙ q)) (can_act_place b c r);
  standstill_place = λ n k e. let is : answer_place (terminal_of b c) ≡ k = ap answer_place e in omega (arith, standstill_place b c);
  verdict_place = λ n k e. let is : place_of_verdict (verdict_of b c) ≡ k = ap place_of_verdict e in omega (arith, verdict_place b c);
  call_place = call_place b c;
  check_tells = λ n k m j l r e. (omega arith, omega arith);
  call_tells = λ n k m j l r e. (omega arith, omega arith);
}
