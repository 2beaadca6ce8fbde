-- Lists of rule numbers: what each meeting hands on, the list hands on. Assumes nothing.
use Rattle.std.specs.Prelude.{◌≡◌, true, false, ℕ, ◌+◌, ◌≤◌, ◌<◌, length, ltb}
use Rattle.std.proofs.Math.Path.{refl, ap}
use Rattle.std.proofs.Common.{sym, ◌∙◌, subst}
use mathlib.Core.List.{List, [], ◌∷◌, ◌++◌}
use native.Mathlib.Omega.{arith}
use borrow.Author.Tests.{ltb-true, lt-ltb}
use Rattle.theory.specs.Bool.{bit}
use Rattle.theory.proofs.Bool.Laws.{by_test, not_both, and_elim, and_intro}
use Rattle.theory.specs.Protocol.{Protocol, WellFormed, size, enabled, fire, fires, tried, after, meetings, EachMeeting}
use Rattle.theory.proofs.Protocol.Laws.{Firing, length-fire, size-fire}

module _ (P : Protocol) where
  -- ---- One number

  pub tried-fires : (c : List ℕ) (r : ℕ) → fires P c r ≡ true → tried P c r ≡ fire P c r
  unfolding tried
  tried-fires c r e = rw (e, tried)

  pub tried_not : (c : List ℕ) (r : ℕ) → fires P c r ≡ false → tried P c r ≡ c
  unfolding tried
  tried_not c r e = rw (e, tried)

  pub meeting : (c : List ℕ) (r : ℕ) → length c ≡ P.states → fires P c r ≡ true → Firing P c r
  unfolding fires
  meeting c r l e = let s = and_elim _ _ e in record { sized = l; rule = ltb-true _ _ s.0; on = s.1 }

  pub fires_rule : (c : List ℕ) (r : ℕ) → fires P c r ≡ true → (r < P.rules) × (enabled P c r ≡ true)
  unfolding fires
  fires_rule c r e = let s = and_elim (ltb r P.rules) (enabled P c r) e in (ltb-true _ _ s.0, s.1)

  pub rule_fires : (c : List ℕ) (r : ℕ) → r < P.rules → enabled P c r ≡ true → fires P c r ≡ true
  unfolding fires
  rule_fires c r l on = and_intro _ _ (lt-ltb _ _ l) on

  pub length-tried : (c : List ℕ) (r : ℕ) → length (tried P c r) ≡ length c
  length-tried c r = by_test (fires P c r) (λ e. ap length (tried-fires c r e) ∙ length-fire P c r) (λ e. ap length (tried_not c r e))

  pub length-after : (c rs : List ℕ) → length (after P c rs) ≡ length c
  unfolding after
  length-after c [] = refl
  length-after c (r ∷ rs) = length-after (tried P c r) rs ∙ length-tried c r

  -- ---- Two lists, one behind the other

  pub after-append : (c xs ys : List ℕ) → after P c (xs ++ ys) ≡ after P (after P c xs) ys
  unfolding after
  after-append c [] ys = refl
  after-append c (x ∷ xs) ys = after-append (tried P c x) xs ys

  pub meetings-append : (c xs ys : List ℕ) → meetings P c (xs ++ ys) ≡ meetings P c xs + meetings P (after P c xs) ys
  unfolding meetings after
  meetings-append c [] ys = omega arith
  meetings-append c (x ∷ xs) ys = omega (arith, meetings-append (tried P c x) xs ys)

  -- ---- Every meeting

  module _ (Q R : List ℕ → ℕ → Type 0) where
    pub each_map : ((c : List ℕ) (r : ℕ) → Q c r → R c r) → (c rs : List ℕ) → EachMeeting P Q c rs → EachMeeting P R c rs
    each_map f c [] q = tt
    each_map f c (r ∷ rs) q = (λ a. f c r (q.0 a), each_map f (tried P c r) rs q.1)

    module _ (I : List ℕ → Type 0) where
      -- What each meeting of kind Q hands on, the list hands on, and each of its meetings is of kind R.
      pub forward : ((c : List ℕ) (r : ℕ) → Firing P c r → Q c r → I c → I (fire P c r) × R c r)
          → (c rs : List ℕ) → length c ≡ P.states → EachMeeting P Q c rs → I c → I (after P c rs) × EachMeeting P R c rs
      unfolding after
      forward step c [] l q i = (i, tt)
      forward step c (r ∷ rs) l q i =
          let rest : I (tried P c r) → I (after P (tried P c r) rs) × EachMeeting P R (tried P c r) rs =
          forward step (tried P c r) rs (length-tried c r ∙ l) q.1 in
          by_test (fires P c r)
          (λ e.
          let s = step c r (meeting c r l e) (q.0 e) i in
          let t = rest (subst I (sym (tried-fires c r e)) s.0) in
          (t.0, (λ _. s.1, t.1)))
          (λ e.
          let t = rest (subst I (sym (tried_not c r e)) i) in
          (t.0, (λ a. absurd (not_both a e), t.1)))

      -- What each meeting of kind Q hands back, from the configuration after it to the one before, the list hands back,
      -- and each of its meetings is of kind R.
      pub backward : ((c : List ℕ) (r : ℕ) → Firing P c r → Q c r → I (fire P c r) → I c × R c r)
          → (c rs : List ℕ) → length c ≡ P.states → EachMeeting P Q c rs → I (after P c rs) → I c × EachMeeting P R c rs
      unfolding after
      backward step c [] l q i = (i, tt)
      backward step c (r ∷ rs) l q i =
          let t : I (tried P c r) × EachMeeting P R (tried P c r) rs = backward step (tried P c r) rs (length-tried c r ∙ l) q.1 i in
          by_test (fires P c r)
          (λ e.
          let s = step c r (meeting c r l e) (q.0 e) (subst I (tried-fires c r e) t.0) in
          (s.0, (λ _. s.1, t.1)))
          (λ e. (subst I (tried_not c r e) t.0, (λ a. absurd (not_both a e), t.1)))

  -- What is true of every configuration and rule is true of every meeting.
  pub each : (Q : List ℕ → ℕ → Type 0) → ((c : List ℕ) (r : ℕ) → Q c r) → (c rs : List ℕ) → EachMeeting P Q c rs
  each Q f c [] = tt
  each Q f c (r ∷ rs) = (λ _. f c r, each Q f (tried P c r) rs)

  module _ (Q : List ℕ → ℕ → Type 0) where
    -- What each meeting keeps, the list keeps.
    pub keeps : (I : List ℕ → Type 0) → ((c : List ℕ) (r : ℕ) → Firing P c r → Q c r → I c → I (fire P c r))
        → (c rs : List ℕ) → length c ≡ P.states → EachMeeting P Q c rs → I c → I (after P c rs)
    keeps I step c rs l q i = (forward Q (λ _ _. Unit {0}) I (λ d r m o j. (step d r m o j, tt)) c rs l q i).0

    -- A measure f that each meeting lowers bounds the number of meetings.
    pub meetings_fall : (f : List ℕ → ℕ) → ((c : List ℕ) (r : ℕ) → Firing P c r → Q c r → f (fire P c r) < f c)
        → (c rs : List ℕ) → length c ≡ P.states → EachMeeting P Q c rs → f (after P c rs) + meetings P c rs ≤ f c
    unfolding after meetings
    meetings_fall f falls c [] l q = omega arith
    meetings_fall f falls c (r ∷ rs) l q =
        let ih : f (after P (tried P c r) rs) + meetings P (tried P c r) rs ≤ f (tried P c r) = meetings_fall f falls (tried P c r) rs
        (length-tried c r ∙ l) q.1 in
        by_test (fires P c r)
        (λ e. omega (arith, falls c r (meeting c r l e) (q.0 e), ap f (tried-fires c r e), ap bit e))
        (λ e. omega (arith, ap f (tried_not c r e), ap bit e))

  pub size-after : WellFormed P → (c rs : List ℕ) → length c ≡ P.states → size (after P c rs) ≡ size c
  size-after good c rs l =
      keeps (λ _ _. Unit {0}) (λ d. size d ≡ size c) (λ d r m o i. size-fire P good d r m ∙ i) c rs l (each (λ _ _. Unit {0}) (λ _ _. tt) c rs) refl
