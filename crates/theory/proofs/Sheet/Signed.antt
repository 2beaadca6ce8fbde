-- The claim and the leaf rules of a sheet on biased numbers are document 02's on signed ones. Assumes nothing.
use Rattle.std.specs.Prelude.{◌≡◌, true, List, ◌↔◌, length, neg_ℤ, ◌+ℤ◌, ◌-ℤ◌, ◌*ℤ◌, ◌≤ℤ◌}
use Prim.Native.Nat.{ℕ, ◌+◌, ◌-◌, ◌*◌, ◌<◌}
use native.Mathlib.Omega.{arith}
use Rattle.std.proofs.Math.IntN.{ℤ, pos}
use borrow.Author.Tests.{leb-true, le-leb}
use Rattle.theory.specs.Weigh.{weigh}
use Rattle.theory.proofs.Weigh.Laws.{weigh-sum}
use Rattle.theory.specs.Protocol.{Protocol, count}
use Rattle.theory.proofs.Protocol.Laws.{only_not}
use Rattle.theory.specs.Facts.{Facts}
use Rattle.theory.specs.Leaf.{extra, spare, total, times, surplus, shortfall, signed, upper_sum, lower_sum}
use Rattle.theory.proofs.Leaf.Signed.{sub_parts, add_parts, neg_parts, Biased, le_biased, lt_biased, times-biased, sum-biased}
use Rattle.theory.proofs.Leaf.Signed.{weight_is, pair_le, nonpos, negative, upper_is, lower_is}
use Rattle.theory.specs.Sheet.{Sheet, Threshold, at_least, at_most, sheet_closes}
use Rattle.theory.specs.Sheet.Claimed.{is_reached, claimed}
use Rattle.theory.specs.Sheet.{number_of, limit_of, weighed_sum, SheetRule, FirstRule, SecondRule}
use Rattle.theory.proofs.Sheet.Tests.{at_start, start_bias, sheet-closes}

-- ---- Biased numbers

-- k times a more than x, and less.
module _ (x a : ℤ) (k b c u n : ℕ) (same : Biased b x u) where
  plus_times : Biased c a n → Biased (b + k * c) (x +ℤ pos k *ℤ a) (u + k * n)
  plus_times e = omega (arith, add_parts x (pos k *ℤ a), times-biased k a c n e)

  minus-times : Biased n a c → Biased (b + k * c) (x -ℤ pos k *ℤ a) (u + k * n)
  minus-times e = omega (arith, add_parts x (neg_ℤ (pos k *ℤ a)), neg_parts (pos k *ℤ a), times-biased k a n c e)

module _ (Z : Sheet) where
  number_is : (s : ℕ) → Biased 32768 (number_of Z s) (Z.numbers s)
  number_is s = omega (arith, sub_parts (Z.numbers s) 32768)

  -- The number that the second tree has for the state, as the bias.
  number_negated : (s : ℕ) → Z.numbers s < 65536 → Biased (65536 - Z.numbers s) (number_of Z s) 32768
  number_negated s l = omega (arith, number_is s)

  limit_is : Biased 2147483648 (limit_of Z) Z.limit
  limit_is = omega (arith, sub_parts Z.limit 2147483648)

  less_is : Biased 2147483649 (limit_of Z -ℤ pos 1) Z.limit
  less_is = omega (arith, add_parts (limit_of Z) (neg_ℤ (pos 1)), limit_is)

-- ---- The claim

module _ (P : Protocol) (Z : Sheet) where
  sum_is : (c : List ℕ) → length c ≡ P.states → Biased (weigh (λ _. 32768) c) (weighed_sum P Z c) (weigh Z.numbers c)
  unfolding weighed_sum
  sum_is c long =
      omega (
        arith,
        sum-biased P.states (λ s. pos (count c s) *ℤ number_of Z s) (λ s. 32768 * count c s) (λ s. Z.numbers s * count c s)
            (λ s _. omega (arith, times-biased (count c s) (number_of Z s) 32768 (Z.numbers s) (number_is Z s))),
        rw long at (weigh-sum (λ _. 32768) c),
        rw long at (weigh-sum Z.numbers c),
      )

  pub claimed_is : (c : List ℕ) → length c ≡ P.states → (claimed Z c ≡ true) ↔ (limit_of Z ≤ℤ weighed_sum P Z c)
  unfolding claimed is_reached at_least
  claimed_is c long =
      let n = weigh Z.numbers c in
      let b = weigh (λ _. 32768) c in
      let t = le_biased (limit_of Z) (weighed_sum P Z c) 2147483648 b Z.limit n (limit_is Z) (sum_is c long) in (
        λ e. t.1 (omega (arith, leb-true (b + Z.limit) (n + 2147483648) e)),
        λ h. le-leb (b + Z.limit) (n + 2147483648) (omega (arith, t.0 h)),
      )

-- ---- Leaves

module _ (P : Protocol) (F : Facts) (w : ℕ → ℕ) (k : ℕ) where
  abbrev y : ℕ → ℤ
  y s = signed (w s)

  -- The rule of a threshold is that of the signed numbers v, which stand for y1 + y2, and of the upper sum.
  rule_is : (B : Threshold) (v : ℕ → ℤ) (upper : ℤ) → let b = start_bias P B F w k in let u : ℕ → ℕ = at_start P B F w k in
      ((s : ℕ) → s < P.states → Biased b (v s) (u s))
      → Biased (total P (spare (times P F) b u) + k * B.plus) upper (total P (extra (times P F) b u) + k * B.minus)
      → (sheet_closes P B F w k ≡ true) ↔ SheetRule P F y v upper
  rule_is B v upper same sum =
      let b = start_bias P B F w k in
      let u : ℕ → ℕ = at_start P B F w k in
      let t = lt_biased upper (lower_sum P F 1 y) (total P (spare (times P F) b u) + k * B.plus) (total P (shortfall P F 1 10000 w))
      (total P (extra (times P F) b u) + k * B.minus) (total P (surplus P F 1 10000 w)) sum (lower_is P F 1 w) in (
        λ e.
            let h = (sheet-closes P B F w k).0 e in
            record {
              rules = λ r l n. (pair_le (w (P.p' r)) (w (P.q' r)) (w (P.p r)) (w (P.q r))).1 (h.rules r l n);
              start = λ s l a n. (nonpos b (v s) (u s) (same s l)).1 (h.start s l a ((only_not P s).1 n));
              ends = λ s l a n. h.ends s l a ((negative (w s)).0 n);
              sums = t.1 (omega (arith, h.sums));
            },
        λ h.
            (sheet-closes P B F w k).1 (record {
              rules = λ r l n. (pair_le (w (P.p' r)) (w (P.q' r)) (w (P.p r)) (w (P.q r))).0 (h.rules r l n);
              start = λ s l a n. (nonpos b (v s) (u s) (same s l)).0 (h.start s l a ((only_not P s).0 n));
              ends = λ s l a n. h.ends s l a ((negative (w s)).1 n);
              sums = omega (arith, t.0 h.sums);
            }),
      )

  module _ (Z : Sheet) where
    pub first_is : (sheet_closes P (at_least Z) F w k ≡ true) ↔ FirstRule P Z F y k
    unfolding at_least
    first_is =
        rule_is (at_least Z) v (upper_sum P F v -ℤ pos k *ℤ limit_of Z) same
        (minus-times (upper_sum P F v) (limit_of Z) k _ Z.limit _ 2147483648 (upper_is P F (start_bias P (at_least Z) F w k) v u same) (limit_is Z))
      where
        v : ℕ → ℤ
        v s = y s +ℤ pos k *ℤ number_of Z s

        u : ℕ → ℕ
        u = at_start P (at_least Z) F w k

        same : (s : ℕ) → s < P.states → Biased (start_bias P (at_least Z) F w k) (v s) (u s)
        same s l = plus_times (y s) (number_of Z s) k 10000 32768 (w s) (Z.numbers s) (weight_is (w s)) (number_is Z s)

    pub second_is : ((s : ℕ) → s < P.states → Z.numbers s < 65536) → (sheet_closes P (at_most Z) F w k ≡ true) ↔ SecondRule P Z F y k
    unfolding at_most
    second_is small =
        rule_is (at_most Z) v (upper_sum P F v +ℤ pos k *ℤ (limit_of Z -ℤ pos 1)) same
        (plus_times (upper_sum P F v) (limit_of Z -ℤ pos 1) k _ 2147483649 _ Z.limit (upper_is P F (start_bias P (at_most Z) F w k) v u same) (less_is Z))
      where
        v : ℕ → ℤ
        v s = y s -ℤ pos k *ℤ number_of Z s

        u : ℕ → ℕ
        u = at_start P (at_most Z) F w k

        same : (s : ℕ) → s < P.states → Biased (start_bias P (at_most Z) F w k) (v s) (u s)
        same s l = minus-times (y s) (number_of Z s) k 10000 32768 (w s) (65536 - Z.numbers s) (weight_is (w s)) (number_negated Z s (small s l))
