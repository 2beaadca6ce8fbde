-- Observation 4.8 of the paper: what a list of rule numbers reaches is potentially reachable through how often each rule
-- fires in it. Assumes nothing.
use Rattle.std.specs.Prelude.{◌≡◌, refl, Bool, true, ◌&&◌, length}
use Rattle.std.proofs.Math.Path.{ap, subst, fun_ext}
use Rattle.std.proofs.Common.{◌∙◌}
use Rattle.std.proofs.Math.Bool.{false}
use mathlib.Core.List.{List, [], ◌∷◌}
use Prim.Native.Nat.{ℕ, ◌+◌, ◌*◌, ◌<◌}
use native.Mathlib.Omega.{arith}
use Rattle.std.proofs.Math.Dec.{eqb}
use borrow.Author.Tests.{ltb-true, eqb-true, eq-eqb, ne_eqb}
use Rattle.theory.specs.Bool.{bit}
use Rattle.theory.proofs.Bool.Laws.{by_test, and_elim, and_intro}
use Rattle.theory.specs.Below.{sum_below}
use Rattle.theory.proofs.Below.Laws.{sum_add, sum_one}
use Rattle.theory.proofs.Weigh.Laws.{pair_outside, pair_weightless}
use Rattle.theory.specs.Protocol.{Protocol, WellFormed, count, pre, post, fires, tried, after, EachMeeting}
use Rattle.theory.proofs.Protocol.Laws.{count-fire, weigh-fire}
use Rattle.theory.proofs.Protocol.Lists.{meeting, length-tried, tried-fires, tried_not, length-after, each_map, forward, backward}
use Rattle.theory.specs.Tree.{takes, puts, is_trap, is_siphon}
use Rattle.theory.proofs.Tree.Traps.{follows_none}
use Rattle.theory.specs.Potential.Runs.{Reach, parikh}
use Rattle.theory.specs.Potential.{count_in, Potential}

module _ (P : Protocol) where
  -- The rule of every meeting of a list fires in the list.
  each-fires : (c rs : List ℕ) → EachMeeting P (λ _ r. 0 < parikh P c rs r) c rs
  unfolding parikh
  each-fires c [] = tt
  each-fires c (i ∷ is) = (
    λ a. omega (arith, ap bit (and_intro _ _ a (eq-eqb i i refl))),
    each_map P (λ _ r. 0 < parikh P (tried P c i) is r) (λ _ r. 0 < parikh P c (i ∷ is) r) (λ _ r l. omega arith) (tried P c i) is
        (each-fires (tried P c i) is),
  )

  -- What is true of the rule of every meeting is true of every rule that fires in the list.
  fires-each : (Q : ℕ → Type 0) (c rs : List ℕ) → EachMeeting P (λ _ r. Q r) c rs → (r : ℕ) → 0 < parikh P c rs r → Q r
  unfolding parikh
  fires-each Q c [] h r l = absurd (omega arith)
  fires-each Q c (i ∷ is) h r l =
      by_test (fires P c i && eqb i r)
      (λ e. let t = and_elim _ _ e in subst Q (eqb-true _ _ t.1) (h.0 t.0))
      (λ e. fires-each Q (tried P c i) is h.1 r (omega (arith, ap bit e)))

  -- A sum over the rules, each as often as it fires: the first number of the list, and the others.
  parikh-sum : (g : ℕ → ℕ) (c : List ℕ) (i : ℕ) (is : List ℕ)
      → sum_below P.rules (λ r. parikh P c (i ∷ is) r * g r) ≡ bit (fires P c i) * g i + sum_below P.rules (λ r. parikh P (tried P c i) is r * g r)
  unfolding parikh fires
  parikh-sum g c i is =
      let rest : ℕ → ℕ = λ r. parikh P (tried P c i) is r in
      by_test (fires P c i)
      (λ e.
      let split : sum_below P.rules (λ r. parikh P c (i ∷ is) r * g r) ≡ sum_below P.rules (λ r. bit (eqb i r) * g r + rest r * g r) =
      ap (sum_below P.rules) (fun_ext (λ r. rw e (omega arith))) in
      omega (
        arith,
        split,
        sum_add P.rules (λ r. bit (eqb i r) * g r) (λ r. rest r * g r),
        sum_one P.rules g i (ltb-true _ _ (and_elim _ _ e).0),
        ap (λ b. bit b * g i) e,
      ))
      (λ e.
      let same : sum_below P.rules (λ r. parikh P c (i ∷ is) r * g r) ≡ sum_below P.rules (λ r. rest r * g r) =
      ap (sum_below P.rules) (fun_ext (λ r. rw e (omega arith))) in
      omega (arith, same, ap (λ b. bit b * g i) e))

  module _ (good : WellFormed P) where
    flow : (c rs : List ℕ) → length c ≡ P.states → (s : ℕ)
        → count (after P c rs) s + sum_below P.rules (λ r. parikh P c rs r * pre P r s) ≡ count c s + sum_below P.rules (λ r. parikh P c rs r * post P r s)
    unfolding parikh after
    flow c [] long s = ap (λ f. count c s + sum_below P.rules f) (fun_ext (λ r. omega arith))
    flow c (i ∷ is) long s =
        let ih = flow (tried P c i) is (length-tried P c i ∙ long) s in
        let into = parikh-sum (λ r. post P r s) c i is in
        let out = parikh-sum (λ r. pre P r s) c i is in
        by_test (fires P c i)
        (λ e. omega (
          arith,
          ih,
          into,
          out,
          count-fire P good c i (meeting P c i long e) s,
          ap (λ d. count d s) (tried-fires P c i e),
          ap
              (λ b. bit b * pre P i s) e,
          ap (λ b. bit b * post P i s) e,
        ))
        (λ e. omega (arith, ih, into, out, ap (λ d. count d s) (tried_not P c i e), ap (λ b. bit b * pre P i s) e, ap (λ b. bit b * post P i s) e))

    module _ (c rs : List ℕ) (long : length c ≡ P.states) where
      -- The rules that do not fire in the list.
      idle : ℕ → Bool
      idle r = eqb (parikh P c rs r) 0

      not_idle : EachMeeting P (λ _ r. idle r ≡ false) c rs
      unfolding idle
      not_idle = each_map P (λ _ r. 0 < parikh P c rs r) (λ _ r. idle r ≡ false) (λ _ r l. ne_eqb (parikh P c rs r) 0 (λ z. omega arith)) c rs (each-fires c rs)

      -- Backward from the end the trap is empty before each meeting, and no meeting puts into it.
      trap_run : (A : ℕ → Bool) → is_trap P idle A ≡ true → count_in A (after P c rs) ≡ 0 → (r : ℕ) → 0 < parikh P c rs r → puts P A r ≡ false
      unfolding is_trap takes puts
      trap_run A t e =
          fires-each (λ r. puts P A r ≡ false) c rs
          (backward P (λ _ r. idle r ≡ false) (λ _ r. puts P A r ≡ false) (λ d. count_in A d ≡ 0)
          (λ d r m o i.
          let k = weigh-fire P good d r m (λ s. bit (A s)) in
          let p : puts P A r ≡ false = pair_outside A (P.p' r) (P.q' r) (omega (arith, k.2)) in
          (omega (arith, k.1, k.2, pair_weightless A (P.p r) (P.q r) (follows_none P idle (takes P A) (puts P A) t r m.rule o p)), p))
          c rs long not_idle e).1

      -- Forward from the start the siphon is empty after each meeting, and no meeting takes from it.
      siphon_run : (A : ℕ → Bool) → is_siphon P idle A ≡ true → count_in A c ≡ 0 → (r : ℕ) → 0 < parikh P c rs r → takes P A r ≡ false
      unfolding is_siphon takes puts
      siphon_run A t e =
          fires-each (λ r. takes P A r ≡ false) c rs
          (forward P (λ _ r. idle r ≡ false) (λ _ r. takes P A r ≡ false) (λ d. count_in A d ≡ 0)
          (λ d r m o i.
          let k = weigh-fire P good d r m (λ s. bit (A s)) in
          let q : takes P A r ≡ false = pair_outside A (P.p r) (P.q r) (omega (arith, k.1)) in
          (omega (arith, k.1, k.2, pair_weightless A (P.p' r) (P.q' r) (follows_none P idle (puts P A) (takes P A) t r m.rule o q)), q))
          c rs long not_idle e).1

      pub reached : Potential P (parikh P c rs) c (after P c rs)
      unfolding idle
      reached =
          record {
            sized = length-after P c rs
                ∙ long;
            flow = λ s _. flow c rs long s;
            traps = λ A t e r _. trap_run A t e r;
            siphons = λ A t e r _. siphon_run A t e r;
          }

  -- What a list of rule numbers reaches, as a run.
  abbrev pub reach : WellFormed P → (c rs : List ℕ) → length c ≡ P.states → Reach P c
  reach good c rs long = record { end = after P c rs; through = parikh P c rs; potential = reached good c rs long }
