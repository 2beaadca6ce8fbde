-- Tests taken apart and put together. Assumes nothing.
use Rattle.std.specs.Prelude.{◌≡◌, refl, Bool, true, false, not, ◌&&◌, ◌||◌, ◌↔◌, ◌⊎◌}
use Rattle.std.proofs.Common.{sym, ◌∙◌, true≢false, inl, inr}
use Rattle.std.proofs.lemmas.Bool.{false≢true}
use Rattle.std.specs.Bool.{beq}
use Rattle.theory.specs.Bool.{imp}

-- A proof by the two values of a test.
pub by_test : {X : Type 0} (b : Bool) → (b ≡ true → X) → (b ≡ false → X) → X
by_test true f g = f refl
by_test false f g = g refl

pub not_both : {b : Bool} → b ≡ true → b ≡ false → ⊥
not_both e f = true≢false (sym e ∙ f)

pub is_true : (b : Bool) → (b ≡ false → ⊥) → b ≡ true
is_true b h = by_test b (λ e. e) (λ e. absurd (h e))

pub is_false : (b : Bool) → (b ≡ true → ⊥) → b ≡ false
is_false b h = by_test b (λ e. absurd (h e)) (λ e. e)

pub and_intro : (a b : Bool) → a ≡ true → b ≡ true → a && b ≡ true
and_intro true b e f = f
and_intro false b e f = e

pub and_elim : (a b : Bool) → a && b ≡ true → (a ≡ true) × (b ≡ true)
and_elim true b h = (refl, h)
and_elim false b h = absurd (false≢true h)

-- Four tests in a row, and six.
pub all_four : (a b c d : Bool) → (a && b && c && d ≡ true) ↔ ((a ≡ true) × (b ≡ true) × (c ≡ true) × (d ≡ true))
all_four a b c d = (
  λ h.
      let t = and_elim (a && b && c) d h in
      let u = and_elim (a && b) c t.0 in
      let v = and_elim a b u.0 in
      (v.0, v.1, u.1, t.1),
  λ t. and_intro _ _ (and_intro _ _ (and_intro _ _ t.0 t.1) t.2) t.3,
)

pub all_six : (a b c d e f : Bool) → (a && b && c && d && e && f ≡ true)
    ↔ ((a ≡ true) × (b ≡ true) × (c ≡ true) × (d ≡ true) × (e ≡ true) × (f ≡ true))
all_six a b c d e f = (
  λ h.
      let t = and_elim (a && b && c && d && e) f h in
      let u = and_elim (a && b && c && d) e t.0 in
      let v = (all_four a b c d).0 u.0 in
      (v.0, v.1, v.2, v.3, u.1, t.1),
  λ t. and_intro _ _ (and_intro _ _ ((all_four a b c d).1 (t.0, t.1, t.2, t.3)) t.4) t.5,
)

pub and_fails : (a b : Bool) → a && b ≡ false → (a ≡ false) ⊎ (b ≡ false)
and_fails true b h = inr h
and_fails false b h = inl refl

pub or_left : (a b : Bool) → a ≡ true → a || b ≡ true
or_left true b e = refl
or_left false b e = absurd (false≢true e)

pub or_right : (a b : Bool) → b ≡ true → a || b ≡ true
or_right true b e = refl
or_right false b e = e

pub or_elim : (a b : Bool) → a || b ≡ true → (a ≡ true) ⊎ (b ≡ true)
or_elim true b h = inl refl
or_elim false b h = inr h

-- Of an or that passes and whose first part fails, the second passes.
pub or_resolve : (a b : Bool) → a ≡ false → a || b ≡ true → b ≡ true
or_resolve true b e h = absurd (true≢false e)
or_resolve false b e h = h

pub or_none : (a b : Bool) → a ≡ false → b ≡ false → a || b ≡ false
or_none true b e f = e
or_none false b e f = f

pub or_fails : (a b : Bool) → a || b ≡ false → (a ≡ false) × (b ≡ false)
or_fails true b h = absurd (true≢false h)
or_fails false b h = (refl, h)

pub imp_intro : (a b : Bool) → (a ≡ true → b ≡ true) → imp a b ≡ true
imp_intro true b f = f refl
imp_intro false b f = refl

pub imp_elim : (a b : Bool) → imp a b ≡ true → a ≡ true → b ≡ true
imp_elim true b h e = h
imp_elim false b h e = absurd (false≢true e)

pub imp_fails : (a b : Bool) → imp a b ≡ false → (a ≡ true) × (b ≡ false)
imp_fails true b h = (refl, h)
imp_fails false b h = absurd (true≢false h)

pub beq_true : (a b : Bool) → beq a b ≡ true → a ≡ b
beq_true true true h = refl
beq_true true false h = absurd (false≢true h)
beq_true false true h = h
beq_true false false h = refl

pub beq_false : (a b : Bool) → beq a b ≡ false → a ≡ not b
beq_false true true h = absurd (true≢false h)
beq_false true false h = refl
beq_false false true h = refl
beq_false false false h = absurd (true≢false h)

pub not_same : (b : Bool) → b ≡ not b → ⊥
not_same true e = true≢false e
not_same false e = false≢true e

pub eq_beq : (a b : Bool) → a ≡ b → beq a b ≡ true
eq_beq true b e = by_test b (λ f. rw f refl) (λ f. absurd (true≢false (e ∙ f)))
eq_beq false b e = by_test b (λ f. absurd (false≢true (e ∙ f))) (λ f. rw f refl)
