-- Numbers that are the same modulo m, by witnesses: multiples of m that make them equal. Assumes nothing.
use Rattle.std.specs.Prelude.{◌≡◌, refl, true, List, ◌↔◌, length, get_or, ltb, eqb}
use Rattle.std.proofs.Math.Path.{sym, ap}
use Rattle.std.proofs.Common.{◌∙◌, arith}
use Prim.Native.Nat.{ℕ, zero, suc, ◌+◌, ◌-◌, ◌*◌, ◌/◌, ◌%◌, ◌<◌}
use Rattle.std.proofs.Math.Nat.{zero-mod, div-add-mod, add-mul-mod_self_left}
use borrow.Author.Tests.{ltb-true, ltb-false, eqb-true, eq-eqb}
use Rattle.theory.proofs.Bool.Laws.{by_test, is_false, not_both}
use Rattle.theory.specs.Below.{sum_below}
use Rattle.theory.proofs.Below.Laws.{sum_add}
use Rattle.theory.specs.Weigh.{weigh}
use Rattle.theory.proofs.Weigh.Laws.{weigh-sum}
use Rattle.theory.specs.Remainder.{congruent}

abbrev pub Congruent : ℕ → ℕ → ℕ → Type 0
Congruent m a b = (x : ℕ) × (y : ℕ) × (a + m * x ≡ b + m * y)

module _ (m : ℕ) where
  pub congruent_is : (a b : ℕ) → (congruent m a b ≡ true) ↔ Congruent m a b
  unfolding congruent
  congruent_is a b = (
    λ e. (b / m, a / m, omega (arith, div-add-mod a m, div-add-mod b m, eqb-true (a % m) (b % m) e)),
    λ c. eq-eqb _ _ (sym (add-mul-mod_self_left a m c.0) ∙ ap (λ n. n % m) c.2 ∙ add-mul-mod_self_left b m c.1),
  )

  -- Two numbers are congruent just where m divides how far they are apart.
  pub congruent_apart : (a b d : ℕ) → d ≡ (a - b) + (b - a) → congruent m a b ≡ eqb (d % m) 0
  unfolding congruent
  congruent_apart a b d h =
      rw zero-mod at
      (by_test (congruent m d 0)
      (λ e. (congruent_is a b).1 (from_distance ((congruent_is d 0).0 e)) ∙ sym e)
      (λ e. is_false _ (λ (t : congruent m a b ≡ true). not_both ((congruent_is d 0).1 (to_distance ((congruent_is a b).0 t))) e) ∙ sym e))
    where
      to_distance : Congruent m a b → Congruent m d 0
      to_distance c =
          by_test (ltb a b)
          (λ e. (c.1, c.0, omega (arith, c.2, ltb-true a b e)))
          (λ e. (c.0, c.1, omega (arith, c.2, ltb-false a b e)))

      from_distance : Congruent m d 0 → Congruent m a b
      from_distance c =
          by_test (ltb a b)
          (λ e. (c.1, c.0, omega (arith, c.2, ltb-true a b e)))
          (λ e. (c.0, c.1, omega (arith, c.2, ltb-false a b e)))

  -- n times two congruent numbers.
  pub congruent-times : (a b n : ℕ) → congruent m a b ≡ true → Congruent m (a * n) (b * n)
  congruent-times a b n e = let c = (congruent_is a b).0 e in (c.0 * n, c.1 * n, omega (arith, ap (λ k. k * n) c.2))

  pub congruent-sum : (n : ℕ) (f g : ℕ → ℕ) → ((k : ℕ) → k < n → Congruent m (f k) (g k)) → Congruent m (sum_below n f) (sum_below n g)
  unfolding sum_below
  congruent-sum zero f g h = (0, 0, refl)
  congruent-sum (suc n) f g h =
      let s = congruent-sum n f g (λ k l. h k (omega arith)) in
      let t = h n (omega arith) in
      (s.0 + t.0, s.1 + t.1, omega (arith, s.2, t.2))

  -- Two weights and two sums that are congruent state by state.
  pub congruent-weigh : (c : List ℕ) (v w f g : ℕ → ℕ) → ((i : ℕ) → i < length c → Congruent m (v i * get_or c i 0 + f i) (w i * get_or c i 0 + g i))
      → Congruent m (weigh v c + sum_below (length c) f) (weigh w c + sum_below (length c) g)
  congruent-weigh c v w f g h =
      let s = congruent-sum (length c) (λ i. v i * get_or c i 0 + f i) (λ i. w i * get_or c i 0 + g i) h in (
        s.0,
        s.1,
        omega (
          arith,
          s.2,
          weigh-sum v c,
          weigh-sum w c,
          sum_add (length c) (λ i. v i * get_or c i 0) f,
          sum_add (length c) (λ i. w i * get_or c i 0) g,
        ),
      )
