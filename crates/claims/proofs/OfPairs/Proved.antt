-- The claims about the number of pairs are proved. Assumes nothing.
use Rattle.refusals.specs.declared.Refusal.{Refusal}
use Rattle.std.specs.Prelude.{Result}
use Rattle.std.specs.Prelude.{◌≡◌, Bool, false, ◌↔◌, Ok}
use Rattle.std.proofs.Math.Path.{refl, ap}
use Rattle.std.proofs.Common.{sym, ◌∙◌, arith, lt-ltb}
use Rattle.std.proofs.Math.Bool.{true, not}
use mathlib.Core.List.{List, [], ◌∷◌}
use Prim.Native.Nat.{ℕ, zero, suc, ◌≤◌, ◌<◌}
use Rattle.theory.proofs.Bool.Laws.{is_true, is_false, and_intro}
use Rattle.theory.specs.Below.{sum_below}
use Rattle.theory.proofs.Below.Laws.{all_intro, sum_mono, sum_const}
use Rattle.theory.specs.Protocol.{Protocol, enabled, terminal, fires}
use Rattle.theory.proofs.Protocol.Laws.{terminal_off}
use Rattle.theory.specs.Pairs.{pairs}
use Rattle.theory.proofs.Pairs.Laws.{pairs-most, apart_pairs-most, no_pairs, pairs-counted, sum_counted, some_agents}
use Rattle.theory.specs.Machine.{step, run, stepped, ran, refused, is_refused, admitted}
use Rattle.format.specs.Format.{protocol_in}
use Rattle.format.specs.declared.Header.{Header}
use Rattle.shape.specs.Sound.{SoundShape}
use Rattle.machine.specs.Calls.{pairs_of, terminal_of, reply_of, counts_of}
use Rattle.claims.specs.OfDocket.{Demand1, last_on}
use Rattle.claims.proofs.OfDocket.Numbers.{not_refused}
use Rattle.claims.proofs.OfDocket.Says.{admitted-within}
use Rattle.claims.proofs.OfDocket.Lists.{still-admitted}
use Rattle.claims.proofs.OfDocket.Proved.{of_docket}
use Rattle.claims.specs.OfPairs.{NoPairs, OfPairs}

abbrev answered : {A : Type 0} → A → Result A Refusal
answered x = Ok x

is_same : (s t : Bool) → answered s ≡ answered t → s ≡ t
is_same s t e = cc

ran_same : (m n : ℕ) (s t : Bool) → ran m s ≡ ran n t → s ≡ t
ran_same m n s t e = cc

number_same : (m n : ℕ) → answered m ≡ answered n → m ≡ n
number_same m n e = cc

module _ (b : List ℕ) (h : Header) (sound : SoundShape b h) where
  abbrev P : Protocol
  P = protocol_in b h

  module _ (c : List ℕ) (on : admitted P c ≡ true) where
    abbrev says : Demand1 b c
    says = (of_docket b).demand_1 c

    number : (r : ℕ) → r < h.sizes.rules → pairs_of b c r ≡ Ok (pairs P c r)
    number r l = ((says.can_act r).own h sound on).0 l

    -- The number is n just where the definition says n.
    number_is : (r n : ℕ) → r < h.sizes.rules → (pairs_of b c r ≡ Ok n) ↔ (pairs P c r ≡ n)
    number_is r n l = (λ e. number_same _ _ (sym (number r l) ∙ e), λ e. number r l ∙ ap Ok e)

    cannot_act : (r : ℕ) → r < h.sizes.rules → (pairs_of b c r ≡ Ok 0) ↔ (enabled P c r ≡ false)
    cannot_act r l = (λ e. (no_pairs P c r).0 ((number_is r 0 l).0 e), λ e. (number_is r 0 l).1 ((no_pairs P c r).1 e))

    most : (r n : ℕ) → r < h.sizes.rules → pairs_of b c r ≡ Ok n → n ≤ 499999500000
    most r n l e = omega (arith, (number_is r n l).0 e, pairs-most c (P.p r) (P.q r) 1000000 (admitted-within P c on).1)

    most_apart : (r n : ℕ) → r < h.sizes.rules → (P.p r ≡ P.q r → ⊥) → pairs_of b c r ≡ Ok n → n ≤ 250000000000
    most_apart r n l apart e = omega (arith, (number_is r n l).0 e, apart_pairs-most c (P.p r) (P.q r) 1000000 (admitted-within P c on).1 apart)

    sum_most : sum_below h.sizes.rules (pairs P c) < 140737488355328
    sum_most =
        let each : (r : ℕ) → pairs P c r ≤ 499999500000 = λ r. omega (arith, pairs-most c (P.p r) (P.q r) 1000000 (admitted-within P c on).1) in
        omega (
          arith,
          sum_mono h.sizes.rules (pairs P c) (λ _. 499999500000) (λ r l. each r),
          sum_const 499999500000 h.sizes.rules,
          sound.limits.rules_most,
        )

    -- A step of an enabled rule makes its meeting, and one of another rule is refused.
    makes : (r : ℕ) → r < h.sizes.rules → enabled P c r ≡ true → reply_of b c (step r) ≡ stepped
    unfolding fires
    makes r l e = ((says.of_step r).own h sound on).0 (and_intro _ _ (lt-ltb r P.rules l) e)

    refuses : (r : ℕ) → r < h.sizes.rules → enabled P c r ≡ false → reply_of b c (step r) ≡ refused 24 r
    refuses r l e = ((says.of_step r).own h sound on).2 l e

    step_refused : (r : ℕ) → r < h.sizes.rules → (pairs_of b c r ≡ Ok 0) ↔ (reply_of b c (step r) ≡ refused 24 r)
    unfolding is_refused
    step_refused r l = (
      λ e. refuses r l ((cannot_act r l).0 e),
      λ e. (cannot_act r l).1 (is_false _ (λ t. not_refused stepped 24 r refl (sym (makes r l t) ∙ e))),
    )

    step_made : (r : ℕ) → r < h.sizes.rules → ((n : ℕ) × (pairs_of b c r ≡ Ok (suc n))) ↔ (reply_of b c (step r) ≡ stepped)
    unfolding is_refused
    step_made r l = (
      λ s. makes r l (is_true _ (λ f. let z : suc s.0 ≡ 0 = number_same _ _ (sym s.1 ∙ (cannot_act r l).1 f) in omega arith)),
      λ e. some (pairs P c r) (number r l) (λ z. not_refused stepped 24 r refl (sym e ∙ refuses r l ((no_pairs P c r).0 z))),
    )
      where
        some : (k : ℕ) → pairs_of b c r ≡ Ok k → (k ≡ 0 → ⊥) → (n : ℕ) × (pairs_of b c r ≡ Ok (suc n))
        some zero q not-0 = absurd (not-0 refl)
        some (suc k) q not-0 = (k, q)

    at_rest : (terminal P c ≡ true) ↔ NoPairs b h c
    unfolding terminal
    at_rest = (
      λ e r l. (cannot_act r l).1 (terminal_off P c e r l),
      λ none. all_intro P.rules (λ r. not (enabled P c r)) (λ r l. ap not ((cannot_act r l).0 (none r l))),
    )

    standstill : (terminal_of b c ≡ Ok true) ↔ NoPairs b h c
    standstill =
        let is : terminal_of b c ≡ Ok (terminal P c) = says.standstill.own h sound on in
        (λ e. at_rest.0 (is_same (terminal P c) true (sym is ∙ e)), λ none. is ∙ ap Ok (at_rest.1 none))

  run_rests : (c : List ℕ) → admitted P c ≡ true → (limit n : ℕ) (rests : Bool) → reply_of b c (run limit) ≡ ran n rests
      → (rests ≡ true) ↔ NoPairs b h (counts_of b c (run limit))
  unfolding last_on
  run_rests c on limit n rests e =
      let makes = (((of_docket b).calls_on_sound h sound c).make on).run_makes [] limit in
      let d = counts_of b c (run limit) in
      let rest : rests ≡ terminal P d = ran_same n makes.steps rests makes.rests (sym e ∙ makes.says) ∙ makes.at_rest in
      let still : admitted P d ≡ true = still-admitted b h sound c (run limit ∷ []) on in
      (λ t. (at_rest d still).0 (sym rest ∙ t), λ none. rest ∙ (at_rest d still).1 none)

pub of_pairs : OfPairs
of_pairs = record {
  tell = λ b h sound c on.
      let P = protocol_in b h in
      record {
        answers = number b h sound c on;
        counted = λ r l n a agents. number b h sound c on r l ∙ ap Ok (sym (pairs-counted c n a agents (P.p r) (P.q r)));
        sum_counted = sum_counted P c;
        most = most b h sound c on;
        most_apart = most_apart b h sound c on;
        sum_most = sum_most b h sound c on;
        cannot_act = cannot_act b h sound c on;
        step_refused = step_refused b h sound c on;
        step_made = step_made b h sound c on;
        standstill = standstill b h sound c on;
        run_rests = run_rests b h sound c on;
        same_before = λ r e l m p q. number b h sound c on r l ∙ ap Ok (rw (p, q)) ∙ sym (number b h sound c on e m);
      };
  some_agents = some_agents;
}
