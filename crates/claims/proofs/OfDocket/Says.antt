-- What every machine call says. Assumes nothing.
use Rattle.refusals.specs.declared.Refusal.{Refusal}
use Rattle.refusals.specs.Refusal.{refusal}
use Rattle.std.proofs.Math.Path.{◌≡◌, ap}
use Rattle.std.specs.Prelude.{refl, Bool, false, cond, List, ◌↔◌, ℕ, ◌≤◌, ◌<◌, leb, ltb, Result, Ok, Err, Option, Some, None}
use Rattle.std.proofs.Common.{sym, ◌∙◌, arith}
use Rattle.std.proofs.Math.Bool.{true}
use borrow.Author.Tests.{ltb-true, ltb-false, lt-ltb, le-ltb, leb-true}
use Rattle.theory.proofs.Bool.Laws.{by_test, not_both, is_true, and_elim}
use Rattle.theory.proofs.Below.Laws.{first_le, first_is, first_passes, first-lowest}
use Rattle.theory.specs.Protocol as theory
use Rattle.theory.specs.Protocol.{Protocol, WellFormed, size, output_of, unfit, Shows, Start, start_test}
use Rattle.theory.proofs.Protocol.Laws.{fit_rule}
use Rattle.theory.specs.Machine.{step, run, step_reply, run_reply, reply, is_sized, is_within, admitted, admit}
use Rattle.theory.proofs.Machine.Laws.{admitted_sized, step_fires, step_no_rule, step_not_enabled}
use Rattle.theory.proofs.Claims.Proved.{theorems}
use Rattle.format.specs.Format.{protocol_in, layers_in}
use Rattle.format.specs.declared.Header.{Header}
use Rattle.shape.specs.Shape.{shape_of, by_shape}
use Rattle.shape.specs.Sound.{SoundShape}
use Rattle.shape.proofs.SoundLaws.{sound_shape, shape_sound}
use Rattle.machine.specs.Calls.{start_answer, pairs_answer, terminal_answer, verdict_as, verdict_answer}
use Rattle.machine.specs.Calls.{start_of, pairs_of, terminal_of, verdict_of, reply_of}
use Rattle.claims.specs.OfDocket.{CallSays, LowestUnfit, pass_back, Demand1}
use Rattle.claims.proofs.OfDocket.Numbers.{shape_refusal_is, unchanged}

-- ---- All calls alike

-- The call's answer a is f of the header, behind tests 1 to 8 and the tests of the counts.
module _ (b c : List ℕ) {A : Type 0} (a : A) (refuse : Refusal → A) (f : Header → A)
    (is : a ≡ by_shape refuse (λ h. admit (protocol_in b h) c (λ n. refuse (refusal n 0)) (f h)) (shape_of b)) where
  abbrev answer_by : Result Header Refusal → A
  answer_by = by_shape refuse (λ h. admit (protocol_in b h) c (λ n. refuse (refusal n 0)) (f h))

  on_sound : (h : Header) → SoundShape b h → a ≡ admit (protocol_in b h) c (λ n. refuse (refusal n 0)) (f h)
  on_sound h sound = is ∙ ap answer_by (shape_sound b h sound)

  on_admitted : (h : Header) → SoundShape b h → admitted (protocol_in b h) c ≡ true → a ≡ f h
  unfolding admitted admit
  on_admitted h sound on = let s = and_elim (is_sized (protocol_in b h) c) (is_within c) on in on_sound h sound ∙ rw (s.0, s.1)

  call_says : (Own : Protocol → Type 0)
      → ((h : Header) → SoundShape b h → admitted (protocol_in b h) c ≡ true → a ≡ f h → Own (protocol_in b h)) → CallSays b c a refuse Own
  unfolding admit
  call_says Own own = record {
    passed_back = λ r e. is ∙ ap answer_by e;
    not_sized = λ h sound off. on_sound h sound ∙ rw off;
    not_within = λ h sound on off. on_sound h sound ∙ rw (on, off);
    own = λ h sound on. own h sound on (on_admitted h sound on);
  }

-- ---- The start test

abbrev number_in : Result (Unit {0}) Refusal → ℕ
number_in (Ok t) = 0
number_in (Err r) = r.number

abbrev place_in : Result (Unit {0}) Refusal → ℕ
place_in (Ok t) = 0
place_in (Err r) = r.place

-- Counts that pass have two agents to a million.
pub admitted-within : (P : Protocol) (c : List ℕ) → admitted P c ≡ true → (2 ≤ size c) × (size c ≤ 1000000)
unfolding admitted is_within
admitted-within P c on =
    let s = and_elim (leb 2 (size c)) (leb (size c) 1000000) (and_elim (is_sized P c) (is_within c) on).1 in
    (leb-true _ _ s.0, leb-true _ _ s.1)

module _ (b c : List ℕ) (P : Protocol) (on : admitted P c ≡ true) where
  -- The start test is at the lowest unfit state, or past the states.
  unfit_test : (s : ℕ) → s < P.states → start_test P c ≡ s → LowestUnfit b c P s
  unfolding start_test
  unfit_test s l e =
      let here : unfit P c s ≡ true = ap (unfit P c) (sym e) ∙ first_passes P.states (unfit P c) (omega arith) in
      record {
        state = l;
        against = λ rule. not_both here ((fit_rule P c s).1 rule);
        lowest_state = λ u m. (fit_rule P c u).0 (first-lowest P.states (unfit P c) u (omega arith));
      }

  test_unfit : (s : ℕ) → LowestUnfit b c P s → start_test P c ≡ s
  unfolding start_test
  test_unfit s u =
      first_is P.states (unfit P c) s (omega (arith, u.state))
      (λ t l. (fit_rule P c t).1 (u.lowest_state t l))
      (λ _. is_true _ (λ f. u.against ((fit_rule P c s).0 f)))

  module _ (a : Result (Unit {0}) Refusal) (e : a ≡ cond (ltb (start_test P c) P.states) (Err (refusal 22 (start_test P c))) (Ok tt)) where
    inside : start_test P c < P.states → a ≡ Err (refusal 22 (start_test P c))
    inside l = e ∙ rw (lt-ltb _ _ l)

    outside : P.states ≤ start_test P c → a ≡ Ok tt
    outside l = e ∙ rw (le-ltb _ _ l)

    start_is : (a ≡ Ok tt) ↔ Start P c
    unfolding start_test
    start_is =
        let t = (theorems P).start_exact c (admitted_sized P c on) (admitted-within P c on).0 in (
          λ q. t.0 (by_test (ltb (start_test P c) P.states)
              (λ l. absurd (let z : ◌≡◌ {A = ℕ} 22 0 = ap number_in (sym (inside (ltb-true _ _ l)) ∙ q) in omega arith))
              (λ l. let m = ltb-false (start_test P c) P.states l in omega (arith, first_le P.states (unfit P c)))),
          λ s. outside (omega (arith, t.1 s)),
        )

    unfit_is : (s : ℕ) → (a ≡ Err (refusal 22 s)) ↔ LowestUnfit b c P s
    unfit_is s = (
      λ q. by_test (ltb (start_test P c) P.states)
          (λ l.
          let m = ltb-true _ _ l in
          let same : start_test P c ≡ s = ap place_in (sym (inside m) ∙ q) in
          unfit_test s (omega arith) same)
          (λ l. absurd (let z : ◌≡◌ {A = ℕ} 0 22 = ap number_in (sym (outside (ltb-false _ _ l)) ∙ q) in omega arith)),
      λ u.
          let same = test_unfit s u in
          inside (omega (arith, u.state)) ∙ ap (λ k. Err (refusal 22 k)) same,
    )

-- ---- The verdict

abbrev code_in : Result (Option Bool) Refusal → ℕ
code_in (Ok (Some false)) = 0
code_in (Ok (Some true)) = 1
code_in (Ok None) = 2
code_in (Err r) = 3

abbrev answered : Option Bool → Result (Option Bool) Refusal
answered v = Ok v

mixed_not_agreed : (v : Bool) → answered None ≡ answered (Some v) → ⊥
mixed_not_agreed true q = let z : ◌≡◌ {A = ℕ} 2 1 = ap code_in q in omega arith
mixed_not_agreed false q = let z : ◌≡◌ {A = ℕ} 2 0 = ap code_in q in omega arith

module _ (P : Protocol) (good : WellFormed P) (c : List ℕ) (on : admitted P c ≡ true) (a : Result (Option Bool) Refusal) (e : a ≡ Ok (verdict_as (output_of P c))) where
  shows_is : (v : Bool) → (output_of P c ≡ theory.agreed v) ↔ Shows P v c
  shows_is = ((theorems P).as_published good c (admitted_sized P c on)).output_is (omega (arith, (admitted-within P c on).0))

  agreed_same : (v w : Bool) → answered (Some v) ≡ answered (Some w) → v ≡ w
  agreed_same v w q = cc

  agreed_is : (v : Bool) → (a ≡ Ok (Some v)) ↔ Shows P v c
  agreed_is v = (
    λ q. go (output_of P c) refl (sym e ∙ q),
    λ s. e ∙ ap (λ x. Ok (verdict_as x)) ((shows_is v).1 s),
  )
    where
      go : (x : theory.Output) → output_of P c ≡ x → answered (verdict_as (output_of P c)) ≡ answered (Some v) → Shows P v c
      go (theory.agreed w) u q = (shows_is v).0 (u ∙ ap theory.agreed (agreed_same w v (sym (ap (λ y. answered (verdict_as y)) u) ∙ q)))
      go theory.mixed u q = absurd (mixed_not_agreed v (sym (ap (λ y. answered (verdict_as y)) u) ∙ q))

  mixed_is : (a ≡ Ok None) ↔ ((v : Bool) → Shows P v c → ⊥)
  mixed_is = (
    λ q v s. mixed_not_agreed v (sym q ∙ (agreed_is v).1 s),
    λ none. go (output_of P c) refl none,
  )
    where
      go : (x : theory.Output) → output_of P c ≡ x → ((v : Bool) → Shows P v c → ⊥) → a ≡ Ok None
      go (theory.agreed w) u none = absurd (none w ((shows_is w).0 u))
      go theory.mixed u none = e ∙ ap (λ y. Ok (verdict_as y)) u

-- ---- Demand 1

pub demand_1 : (b c : List ℕ) → Demand1 b c
unfolding start_of start_answer pairs_of pairs_answer terminal_of terminal_answer verdict_of verdict_answer reply_of reply run_reply
demand_1 b c = record {
  shape_sound_is = λ h. (sound_shape b h, shape_sound b h);
  shape_refusal_is = shape_refusal_is b;
  start =
      call_says b c (start_of b c) Err _ refl _
      (λ h sound on e. (start_is b c (protocol_in b h) on (start_of b c) e, unfit_is b c (protocol_in b h) on (start_of b c) e));
  can_act = λ r.
      call_says b c (pairs_of b c r) Err _ refl _
      (λ h sound on e. (λ l. e ∙ rw (lt-ltb r h.sizes.rules l), λ l. e ∙ rw (le-ltb r h.sizes.rules l)));
  standstill = call_says b c (terminal_of b c) Err _ refl _ (λ h sound on e. e);
  verdict = call_says b c (verdict_of b c) Err _ refl _
      (λ h sound on e.
      let P = protocol_in b h in
      let good = sound.sections.formed in
      (agreed_is P good c on (verdict_of b c) e, mixed_is P good c on (verdict_of b c) e));
  of_step = λ r.
      call_says b c (reply_of b c (step r)) (pass_back b c) (λ h. step_reply (protocol_in b h) c r) refl _
      (λ h sound on e.
      let P = protocol_in b h in
      (λ q. e ∙ step_fires P c r q, λ l. e ∙ step_no_rule P c r l, λ l off. e ∙ step_not_enabled P c r l off));
  of_run = λ limit.
      call_says b c (reply_of b c (run limit)) (pass_back b c) (λ h. run_reply (protocol_in b h) (layers_in b h) c limit) refl _
      (λ h sound on e. (_, _, e));
  unchanged = unchanged b c;
}
