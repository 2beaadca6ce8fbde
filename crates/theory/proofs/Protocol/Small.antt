-- Configurations of fewer than two agents: no rule is enabled, and one output is shown. Assumes nothing.
use Rattle.std.specs.Prelude.{◌≡◌, Bool, false, ℕ, ◌+◌, ◌≤◌, ◌<◌, eqb}
use Rattle.std.proofs.Math.Path.{refl, ap}
use Rattle.std.proofs.Common.{◌∙◌, arith}
use Rattle.std.proofs.Math.Bool.{true}
use mathlib.Core.List.{List, [], ◌∷◌}
use Rattle.std.proofs.Math.Logic.{by_cases}
use Rattle.std.proofs.Math.Decide.{dec_lt, ℕ_discrete}
use Rattle.std.proofs.Math.Dec.{ltb}
use borrow.Author.Tests.{ltb-true, eqb-true, eqb-false, ne_eqb}
use Rattle.theory.specs.Bool.{bit}
use Rattle.theory.proofs.Bool.Laws.{by_test, is_false, and_elim}
use Rattle.theory.proofs.Weigh.Laws.{weigh_add, weigh_mono, weigh_at, weigh-some, weigh_one}
use Rattle.theory.specs.Protocol.{Protocol, count, size, enabled, Shows, tried, after}
use Rattle.theory.proofs.Protocol.Lists.{fires_rule, tried_not}

-- The agents of one state, and of two, are no more than all.
pub one_held : (c : List ℕ) (s : ℕ) → count c s ≤ size c
unfolding size
one_held c s = omega (arith, weigh_at (λ _. 1) c s)

pub two-held : (c : List ℕ) (s t : ℕ) → (s ≡ t → ⊥) → count c s + count c t ≤ size c
unfolding size
two-held c s t other =
    omega (
      arith,
      weigh_one s c,
      weigh_one t c,
      weigh_add (λ i. bit (eqb i s)) (λ i. bit (eqb i t)) c,
      weigh_mono (λ i. bit (eqb i s) + bit (eqb i t)) (λ _. 1) c (λ i l. apart i),
    )
  where
    apart : (i : ℕ) → bit (eqb i s) + bit (eqb i t) ≤ 1
    apart i =
        by_test (eqb i s)
        (λ e. let q = eqb-true i s e in omega (arith, ap bit e, ap bit (ne_eqb i t (λ r. other (omega arith)))))
        (λ e. by_test (eqb i t) (λ f. omega (arith, ap bit e, ap bit f)) (λ f. omega (arith, ap bit e, ap bit f)))

module _ (P : Protocol) (c : List ℕ) where
  enabled-two : (r : ℕ) → enabled P c r ≡ true → 2 ≤ size c
  unfolding enabled
  enabled-two r on =
      by_test (eqb (P.p r) (P.q r))
      (λ e. let h : ltb 1 (count c (P.p r)) ≡ true = rw (e, enabled) at on in
      omega (arith, ltb-true 1 (count c (P.p r)) h, one_held c (P.p r)))
      (λ e.
      let h = and_elim (ltb 0 (count c (P.p r))) (ltb 0 (count c (P.q r))) (rw (e, enabled) at on) in
      omega (arith, ltb-true 0 (count c (P.p r)) h.0, ltb-true 0 (count c (P.q r)) h.1, two-held c (P.p r) (P.q r) (eqb-false _ _ e)))

  module _ (small : size c < 2) where
    small_tried : (r : ℕ) → tried P c r ≡ c
    small_tried r = tried_not P c r (is_false _ (λ e. let m = fires_rule P c r e in absurd (omega (arith, enabled-two r m.1))))

    pub small_after : (rs : List ℕ) → after P c rs ≡ c
    unfolding after
    small_after [] = refl
    small_after (r ∷ rs) = ap (λ d. after P d rs) (small_tried r) ∙ small_after rs

    pub small_shows : (v : Bool) × Shows P v c
    unfolding size
    small_shows =
        by_cases (dec_lt 0 (size c))
        (λ l.
        let i = weigh-some (λ _. 1) c l in (
          P.output i.0,
          λ s h.
              by_cases (ℕ_discrete s i.0) (λ e. ap P.output e)
              (λ o. absurd (omega (arith, i.1, two-held c s i.0 o))),
        ))
        (λ g. (false, λ s h. absurd (omega (arith, one_held c s))))
