-- Traps and siphons, rule by rule. Assumes nothing.
use Rattle.std.specs.Prelude.{◌≡◌, Bool, true, false, ◌||◌, ◌↔◌, ℕ, ◌+◌, ◌<◌, eqb}
use Rattle.std.proofs.Common.{ap, ◌∙◌, ⊎_elim, arith}
use Rattle.theory.specs.Bool.{imp, bit}
use Rattle.theory.proofs.Bool.Laws.{not_both, is_false, or_left, or_right, or_elim, imp_intro, imp_elim}
use Rattle.theory.proofs.Below.Laws.{all_unless}
use Rattle.theory.specs.Protocol.{Protocol, pre, post}
use Rattle.theory.proofs.Protocol.Laws.{self, in_pair_lem}
use Rattle.theory.specs.Tree.{takes, puts, follows}

-- A pair meets a set if it has a state of the set.
pair_meets : (A : ℕ → Bool) (a b : ℕ) → (A a || A b ≡ true) ↔ ((s : ℕ) × (A s ≡ true) × (0 < bit (eqb a s) + bit (eqb b s)))
pair_meets A a b = (
  λ h. ⊎_elim (λ (e : A a ≡ true). (a, e, omega (arith, self a))) (λ (e : A b ≡ true). (b, e, omega (arith, self b))) (or_elim (A a) (A b) h),
  λ w. ⊎_elim (λ (e : a ≡ w.0). or_left _ _ (ap A e ∙ w.1)) (λ (e : b ≡ w.0). or_right (A a) (A b) (ap A e ∙ w.1)) (in_pair_lem a b w.0 w.2),
)

module _ (P : Protocol) where
  pub takes_is : (A : ℕ → Bool) (r : ℕ) → (takes P A r ≡ true) ↔ ((s : ℕ) × (A s ≡ true) × (0 < pre P r s))
  unfolding takes
  takes_is A r = pair_meets A (P.p r) (P.q r)

  pub puts_is : (A : ℕ → Bool) (r : ℕ) → (puts P A r ≡ true) ↔ ((s : ℕ) × (A s ≡ true) × (0 < post P r s))
  unfolding puts
  puts_is A r = pair_meets A (P.p' r) (P.q' r)

  -- The test, rule by rule.
  pub follows_is : (u f g : ℕ → Bool) → (follows P u f g ≡ true) ↔ ((r : ℕ) → r < P.rules → u r ≡ false → f r ≡ true → g r ≡ true)
  unfolding follows
  follows_is u f g = (
    λ h r l e. imp_elim _ _ ((all_unless P.rules u (λ r. imp (f r) (g r))).0 h r l e),
    λ h. (all_unless P.rules u (λ r. imp (f r) (g r))).1 (λ r l e. imp_intro _ _ (h r l e)),
  )

  -- A rule not unused that does not pass g does not pass f.
  pub follows_none : (u f g : ℕ → Bool) → follows P u f g ≡ true → (r : ℕ) → r < P.rules → u r ≡ false → g r ≡ false → f r ≡ false
  follows_none u f g h r l e none = is_false _ (λ d. not_both ((follows_is u f g).0 h r l e d) none)

  -- Where more rules are unused, the test still passes.
  pub follows-fewer : (u v f g : ℕ → Bool) → ((r : ℕ) → u r ≡ true → v r ≡ true) → follows P u f g ≡ true → follows P v f g ≡ true
  follows-fewer u v f g more h = (follows_is v f g).1 (λ r l e. (follows_is u f g).0 h r l (is_false _ (λ d. not_both (more r d) e)))
