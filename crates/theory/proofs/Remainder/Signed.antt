-- The remainder rule on biased weights is document 02's on signed ones. Assumes nothing.
use Rattle.std.specs.Prelude.{◌≡◌, refl, Bool, true, false, not, cond, ◌&&◌, ◌↔◌, ltb, ℤ, pos, negsuc, neg_ℤ, ◌+ℤ◌, ◌-ℤ◌, ◌*ℤ◌}
use Rattle.std.proofs.Common.{ap, inl, inr, ⊎_elim, arith, ltb-false}
use Rattle.std.proofs.Math.Bool.{and-false}
use Rattle.std.proofs.Math.Logic.{by_cases}
use Prim.Native.Nat.{ℕ, suc, ◌+◌, ◌-◌, ◌*◌}
use Rattle.std.proofs.Math.Decide.{dec_le}
use Rattle.theory.specs.Bool.{bit}
use Rattle.theory.proofs.Bool.Laws.{by_test, is_false, not_both}
use Rattle.theory.specs.Protocol.{Protocol}
use Rattle.theory.proofs.Protocol.Laws.{only_not}
use Rattle.theory.specs.Facts.{Facts}
use Rattle.theory.specs.Leaf.{extra, spare, total, signed}
use Rattle.theory.proofs.Leaf.Signed.{plus, minus, parts_same, add_parts, neg_parts, weight-parts, pair_parts}
use Rattle.theory.proofs.Leaf.Signed.{Biased, sum-biased, Joined, joined_times}
use Rattle.theory.specs.Remainder.{congruent, exactly_one, known, excess, deficit, remainder_closes, SameModulo, exact_sum, fixed_sum, RemainderRule}
use Rattle.theory.proofs.Remainder.Congruence.{Congruent, congruent_is}
use Rattle.theory.proofs.Remainder.Tests.{additions, reductions, remainder_closes_lem}

-- ---- The same modulo m, in parts

diff_parts : (a b : ℤ) → plus (a -ℤ b) + (minus a + plus b) ≡ minus (a -ℤ b) + (plus a + minus b)
diff_parts a b = omega (arith, add_parts a (neg_ℤ b), neg_parts b)

-- The product by a positive and by a negative number.
times_pos : (m n : ℕ) → (plus (pos m *ℤ pos n) ≡ m * n) × (minus (pos m *ℤ pos n) ≡ 0)
times_pos m n = (refl, refl)

times_neg : (m n : ℕ) → (plus (pos m *ℤ negsuc n) ≡ 0) × (minus (pos m *ℤ negsuc n) ≡ m * suc n)
times_neg m n = neg_parts (pos (m * suc n))

-- Integers of the same difference are equal.
diff_same : (a b : ℤ) → plus a + minus b ≡ plus b + minus a → a ≡ b
diff_same (pos a) (pos b) e = parts_same (pos a) (pos b) (omega arith) refl
diff_same (pos a) (negsuc b) e = absurd (omega arith)
diff_same (negsuc a) (pos b) e = absurd (omega arith)
diff_same (negsuc a) (negsuc b) e = parts_same (negsuc a) (negsuc b) refl (omega arith)

module _ (m : ℕ) where
  from_same : (a b x : ℤ) → a -ℤ b ≡ pos m *ℤ x → Congruent m (plus a + minus b) (plus b + minus a)
  from_same a b (pos n) e = (0, n, omega (arith, diff_parts a b, ap plus e, ap minus e, times_pos m n))
  from_same a b (negsuc n) e = (suc n, 0, omega (arith, diff_parts a b, ap plus e, ap minus e, times_neg m n))

  -- From so many multiples of m more on the left, or on the right.
  more_left : (a b : ℤ) (n : ℕ) → plus a + minus b ≡ plus b + minus a + m * n → a -ℤ b ≡ pos m *ℤ pos n
  more_left a b n e = diff_same (a -ℤ b) (pos m *ℤ pos n) (omega (arith, diff_parts a b, times_pos m n))

  more_right : (a b : ℤ) (n : ℕ) → plus a + minus b + m * suc n ≡ plus b + minus a → a -ℤ b ≡ pos m *ℤ negsuc n
  more_right a b n e = diff_same (a -ℤ b) (pos m *ℤ negsuc n) (omega (arith, diff_parts a b, times_neg m n))

  same_is : (a b : ℤ) → SameModulo m a b ↔ Congruent m (plus a + minus b) (plus b + minus a)
  same_is a b = (
    λ s. from_same a b s.0 s.1,
    λ c.
        by_cases (dec_le c.0 c.1)
        (λ l.
        let e : c.1 ≡ c.0 + (c.1 - c.0) = omega arith in
        (pos (c.1 - c.0), more_left a b (c.1 - c.0) (omega (arith, c.2, ap (λ n. m * n) e))))
        (λ l.
        let e : c.0 ≡ c.1 + suc (c.0 - suc c.1) = omega arith in
        (negsuc (c.0 - suc c.1), more_right a b (c.0 - suc c.1) (omega (arith, c.2, ap (λ n. m * n) e)))),
  )

  -- Integers are the same modulo m where numbers are that have the same difference.
  same_by : (a b : ℤ) (u v : ℕ) → plus a + minus b + v ≡ plus b + minus a + u → SameModulo m a b ↔ (congruent m u v ≡ true)
  same_by a b u v e = (
    λ s. let c = (same_is a b).0 s in (congruent_is m u v).1 (c.0, c.1, omega (arith, c.2)),
    λ d. let c = (congruent_is m u v).0 d in (same_is a b).1 (c.0, c.1, omega (arith, c.2)),
  )

  -- ---- Weights, signed and biased

  same_weight : (w : ℕ) → SameModulo m (signed w) (pos 0) ↔ (congruent m w 10000 ≡ true)
  same_weight w = same_by (signed w) (pos 0) w 10000 (omega (arith, weight-parts w))

  same_pairs : (a b c d : ℕ) → SameModulo m (signed a +ℤ signed b) (signed c +ℤ signed d) ↔ (congruent m (a + b) (c + d) ≡ true)
  same_pairs a b c d =
      same_by (signed a +ℤ signed b) (signed c +ℤ signed d) (a + b) (c + d) (omega (arith, pair_parts a b, pair_parts c d))

  same_pair : (a b : ℕ) → SameModulo m (signed a +ℤ signed b) (pos 0) ↔ (congruent m (a + b) 20000 ≡ true)
  same_pair a b = same_pairs a b 10000 10000

-- The term of a state in the sum: e says whether it is known to hold exactly one agent.
exact_term : (e : Bool) (w : ℕ) → Biased (bit e * (10000 - w)) (cond e (signed w) (pos 0)) (bit e * (w - 10000))
exact_term true w = omega (arith, weight-parts w)
exact_term false w = omega arith

-- The term of a state in what is taken off: a says whether it is absent, i whether it is an input, n is its number of fixed
-- agents.
fixed_term : (a i : Bool) (n v w : ℕ)
    → Joined 20000 (cond (not a && not i) (pos n *ℤ (signed v +ℤ signed w)) (pos 0)) (bit (not a && (ltb 0 n && not i)) * n) (v + w)
fixed_term true i n v w = omega arith
fixed_term false true n v w = rw (and-false (ltb 0 n)) (omega arith)
fixed_term false false n v w =
    by_test (ltb 0 n)
    (λ e. let d : 1 * n ≡ n = omega arith in rw (e, d) (joined_times n 20000 (signed v +ℤ signed w) (v + w) (pair_parts v w)))
    (λ e. let d : n ≡ 0 = omega (arith, ltb-false 0 n e) in rw (e, d) (joined_times 0 20000 (signed v +ℤ signed w) (v + w) (pair_parts v w)))

module _ (P : Protocol) (m : ℕ) (F : Facts) (w : ℕ → ℕ → ℕ) where
  abbrev y : ℕ → ℕ → ℤ
  y k s = signed (w k s)

  -- The sum of an end is its excess less its deficit.
  exact_is : (k : ℕ) → Biased (total P (deficit F k 10000 (w k))) (exact_sum P F y k) (total P (excess F k 10000 (w k)))
  unfolding exact_sum excess deficit
  exact_is k = sum-biased P.states _ (deficit F k 10000 (w k)) (excess F k 10000 (w k)) (λ s _. exact_term (exactly_one F k s) (w k s))

  fixed_is : let v : ℕ → ℕ = λ s. w 1 s + w 2 s in
      Biased (total P (spare (known P F) 20000 v)) (fixed_sum P F y) (total P (extra (known P F) 20000 v))
  unfolding fixed_sum known spare extra
  fixed_is =
      let v : ℕ → ℕ = λ s. w 1 s + w 2 s in
      sum-biased P.states _ (spare (known P F) 20000 v) (extra (known P F) 20000 v)
      (λ s _. fixed_term (F.absent 0 s) (P.input s) (P.fixed s) (w 1 s) (w 2 s))

  sums_is : SameModulo m (exact_sum P F y 1 +ℤ exact_sum P F y 2 -ℤ fixed_sum P F y) (pos 0) ↔ (congruent m (additions P m F w) (reductions P m F w) ≡ true)
  sums_is =
      let ends = exact_sum P F y 1 +ℤ exact_sum P F y 2 in
      let off = fixed_sum P F y in
      same_by m (ends -ℤ off) (pos 0) (additions P m F w) (reductions P m F w)
      (omega (arith, diff_parts ends off, add_parts (exact_sum P F y 1) (exact_sum P F y 2), exact_is 1, exact_is 2, fixed_is))

  pub remainder_is : (remainder_closes P m F w ≡ true) ↔ RemainderRule P F y m
  remainder_is = (
    λ e.
        let t = (remainder_closes_lem P m F w).0 e in
        record {
          rules = λ k i j r l u. (same_pairs m (w k (P.p' r)) (w k (P.q' r)) (w k (P.p r)) (w k (P.q r))).1 (t.rules k i j r l u);
          start = λ s l a n. (same_pair m (w 1 s) (w 2 s)).1 (t.start s l a ((only_not P s).1 n));
          ends = λ k i j s l a. ⊎_elim (λ e. inl ((same_weight m (w k s)).1 e)) inr (t.ends k i j s l a);
          sums = λ s. not_both (sums_is.0 s) t.sums;
        },
    λ t.
        (remainder_closes_lem P m F w).1 (record {
          rules = λ k i j r l u. (same_pairs m (w k (P.p' r)) (w k (P.q' r)) (w k (P.p r)) (w k (P.q r))).0 (t.rules k i j r l u);
          start = λ s l a n. (same_pair m (w 1 s) (w 2 s)).0 (t.start s l a ((only_not P s).0 n));
          ends = λ k i j s l a. ⊎_elim (λ e. inl ((same_weight m (w k s)).0 e)) inr (t.ends k i j s l a);
          sums = is_false _ (λ e. t.sums (sums_is.1 e));
        }),
  )
