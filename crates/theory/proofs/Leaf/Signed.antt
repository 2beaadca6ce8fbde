-- The leaf rule on biased weights is that of the documents on signed ones. Assumes nothing.
use Rattle.std.specs.Prelude.{◌≡◌, refl, Bool, true, false, not, cond, ◌&&◌, ◌||◌, ◌↔◌, ℕ, zero, suc, ◌+◌, ◌-◌, ◌*◌, ◌≤◌, ◌<◌, ltb, ℤ, pos, negsuc, neg_ℤ, ◌+ℤ◌, ◌*ℤ◌, ◌≤ℤ◌, ◌<ℤ◌}
use Rattle.std.proofs.Common.{ap, arith, leb→le, le→leb, ltb→lt, lt→ltb, ltb-true, ltb-false, le-ltb}
use Rattle.std.proofs.Math.IntN.{sub_ℕ}
use Rattle.std.specs.Int.Signed.{lt_z}
use Rattle.theory.specs.Bool.{bit}
use Rattle.theory.proofs.Bool.Laws.{by_test}
use Rattle.theory.specs.Below.{sum_below}
use Rattle.theory.specs.Protocol.{Protocol}
use Rattle.theory.proofs.Protocol.Laws.{only_not}
use Rattle.theory.specs.Facts.{Facts}
use Rattle.theory.specs.Leaf.{extra, spare, total, times, surplus, shortfall, leaf_closes, signed, signed_sum, upper_sum, lower_sum, LeafRule}
use Rattle.theory.proofs.Leaf.Tests.{reductions, additions, leaf-closes}

-- ---- An integer is the difference of two numbers, one of which is 0

abbrev pub plus : ℤ → ℕ
plus (pos n) = n
plus (negsuc n) = 0

abbrev pub minus : ℤ → ℕ
minus (pos n) = 0
minus (negsuc n) = suc n

pub sub_parts : (a b : ℕ) → (plus (sub_ℕ a b) ≡ a - b) × (minus (sub_ℕ a b) ≡ b - a)
sub_parts a b = by_test (ltb a b) (λ e. rw e (omega (arith, ltb-true a b e))) (λ e. rw e (omega (arith, ltb-false a b e)))

pub parts_same : (a b : ℤ) → plus a ≡ plus b → minus a ≡ minus b → a ≡ b
parts_same (pos a) (pos b) e f = ap pos e
parts_same (pos a) (negsuc b) e f = absurd (omega arith)
parts_same (negsuc a) (pos b) e f = absurd (omega arith)
parts_same (negsuc a) (negsuc b) e f = let g : a ≡ b = omega arith in ap negsuc g

pub add_parts : (a b : ℤ) → plus (a +ℤ b) + (minus a + minus b) ≡ minus (a +ℤ b) + (plus a + plus b)
add_parts (pos a) (pos b) = omega arith
add_parts (pos a) (negsuc b) = omega (arith, sub_parts a (suc b))
add_parts (negsuc a) (pos b) = omega (arith, sub_parts b (suc a))
add_parts (negsuc a) (negsuc b) = omega arith

pub neg_parts : (b : ℤ) → (plus (neg_ℤ b) ≡ minus b) × (minus (neg_ℤ b) ≡ plus b)
neg_parts (pos zero) = (refl, refl)
neg_parts (pos (suc n)) = (refl, refl)
neg_parts (negsuc n) = (refl, refl)

pub times-parts : (m : ℕ) (a : ℤ) → (plus (pos m *ℤ a) ≡ m * plus a) × (minus (pos m *ℤ a) ≡ m * minus a)
times-parts m (pos a) = omega arith
times-parts m (negsuc a) = omega (arith, neg_parts (pos (m * suc a)))

pub le_parts : (a b : ℤ) → (a ≤ℤ b) ↔ (plus a + minus b ≤ plus b + minus a)
le_parts (pos a) (pos b) = (λ h. omega (arith, leb→le a b h.le), λ h. record { le = le→leb a b (omega arith) })
le_parts (pos a) (negsuc b) = (λ h. absurd h.le, λ h. absurd (omega arith))
le_parts (negsuc a) (pos b) = (λ h. omega arith, λ h. record { le = tt })
le_parts (negsuc a) (negsuc b) = (λ h. omega (arith, leb→le b a h.le), λ h. record { le = le→leb b a (omega arith) })

lt_parts : (a b : ℤ) → (a <ℤ b) ↔ (plus a + minus b < plus b + minus a)
lt_parts (pos a) (pos b) = (λ h. omega (arith, ltb→lt a b h.lt), λ h. record { lt = lt→ltb a b (omega arith) })
lt_parts (pos a) (negsuc b) = (λ h. absurd h.lt, λ h. absurd (omega arith))
lt_parts (negsuc a) (pos b) = (λ h. omega arith, λ h. record { lt = tt })
lt_parts (negsuc a) (negsuc b) = (λ h. omega (arith, ltb→lt b a h.lt), λ h. record { lt = lt→ltb b a (omega arith) })

-- ---- Biased numbers

-- The integer a is u, biased by b.
abbrev pub Biased : ℕ → ℤ → ℕ → Type 0
Biased b a u = plus a + b ≡ minus a + u

pub le_biased : (x y : ℤ) (b c u v : ℕ) → Biased b x u → Biased c y v → (x ≤ℤ y) ↔ (u + c ≤ v + b)
le_biased x y b c u v e f = let t = le_parts x y in (λ h. omega (arith, t.0 h), λ h. t.1 (omega arith))

pub lt_biased : (x y : ℤ) (b c u v : ℕ) → Biased b x u → Biased c y v → (x <ℤ y) ↔ (u + c < v + b)
lt_biased x y b c u v e f = let t = lt_parts x y in (λ h. omega (arith, t.0 h), λ h. t.1 (omega arith))

pub times-biased : (k : ℕ) (a : ℤ) (b u : ℕ) → Biased b a u → Biased (k * b) (pos k *ℤ a) (k * u)
times-biased k a b u e = omega (arith, times-parts k a, ap (λ m. k * m) e)

pub sum-biased : (n : ℕ) (f : ℕ → ℤ) (b u : ℕ → ℕ) → ((s : ℕ) → s < n → Biased (b s) (f s) (u s))
    → Biased (sum_below n b) (signed_sum n f) (sum_below n u)
unfolding signed_sum sum_below
sum-biased zero f b u each = refl
sum-biased (suc n) f b u each =
    omega (arith, sum-biased n f b u (λ s l. each s (omega arith)), add_parts (signed_sum n f) (f n), each n (omega arith))

-- ---- Weights, signed and biased

pub weight-parts : (w : ℕ) → (plus (signed w) ≡ w - 10000) × (minus (signed w) ≡ 10000 - w)
weight-parts w = sub_parts w 10000

pub weight_is : (w : ℕ) → Biased 10000 (signed w) w
weight_is w = omega (arith, weight-parts w)

pub pair_parts : (v w : ℕ) → Biased 20000 (signed v +ℤ signed w) (v + w)
pair_parts v w = omega (arith, add_parts (signed v) (signed w), weight-parts v, weight-parts w)

-- Pairs are compared as their biased weights are.
pub pair_le : (a b c d : ℕ) → ((signed a +ℤ signed b) ≤ℤ (signed c +ℤ signed d)) ↔ (a + b ≤ c + d)
pair_le a b c d =
    let t = le_biased (signed a +ℤ signed b) (signed c +ℤ signed d) 20000 20000 (a + b) (c + d) (pair_parts a b) (pair_parts c d) in
    (λ h. omega (arith, t.0 h), λ h. t.1 (omega arith))

pub nonpos : (b : ℕ) (v : ℤ) (u : ℕ) → Biased b v u → (v ≤ℤ pos 0) ↔ (u ≤ b)
nonpos b v u e = let t = le_parts v (pos 0) in (λ h. omega (arith, t.0 h), λ h. t.1 (omega arith))

pub negative : (w : ℕ) → (signed w <ℤ pos 0) ↔ (w < 10000)
negative w =
    let t = lt_parts (signed w) (pos 0) in
    (λ h. omega (arith, t.0 h, weight-parts w), λ h. t.1 (omega (arith, weight-parts w)))

-- ---- The terms of the two sums, at a state that is absent or not (a) and present or not (p)

-- The term a is n times u - b.
abbrev pub Joined : ℕ → ℤ → ℕ → ℕ → Type 0
Joined b a n u = Biased (n * (b - u)) a (n * (u - b))

joined_none : (b u : ℕ) → Joined b (pos 0) 0 u
joined_none b u = omega arith

joined_once : (b : ℕ) (v : ℤ) (u : ℕ) → Biased b v u → Joined b v 1 u
joined_once b v u same = omega arith

pub joined_times : (n b : ℕ) (v : ℤ) (u : ℕ) → Biased b v u → Joined b (pos n *ℤ v) n u
joined_times n b v u same = let e : Biased (b - u) v (u - b) = omega arith in times-biased n v (b - u) (u - b) e

upper_term : (a p : Bool) (n b : ℕ) (v : ℤ) (u : ℕ) → Biased b v u
    → Joined b (cond a (pos 0) (cond (ltb 0 n) (pos n *ℤ v) (cond p v (pos 0)))) (cond (ltb 0 n) (bit (not a) * n) (bit (not a && p))) u
upper_term true p n b v u same = by_test (ltb 0 n) (λ e. rw e (omega arith)) (λ e. rw e (joined_none b u))
upper_term false true n b v u same =
    by_test (ltb 0 n) (λ e. let d : 1 * n ≡ n = omega arith in rw (e, d) (joined_times n b v u same)) (λ e. rw e (joined_once b v u same))
upper_term false false n b v u same =
    by_test (ltb 0 n) (λ e. let d : 1 * n ≡ n = omega arith in rw (e, d) (joined_times n b v u same)) (λ e. rw e (joined_none b u))

lower_term : (a p : Bool) (w : ℕ)
    → Biased (bit (not a) * (10000 - w)) (cond (not a && (p || lt_z (signed w) (pos 0))) (signed w) (pos 0)) (bit (not a && p) * (w - 10000))
lower_term true p w = omega arith
lower_term false true w = omega (arith, weight-parts w)
lower_term false false w =
    by_test (ltb w 10000)
    (λ e. rw e (omega (arith, ltb-true w 10000 e)))
    (λ e. rw (e, le-ltb (w - 10000) 0 (omega arith)) (omega (arith, ltb-false w 10000 e)))

module _ (P : Protocol) (F : Facts) where
  -- The upper sum is extras - spares.
  pub upper_is : (b : ℕ) (v : ℕ → ℤ) (u : ℕ → ℕ) → ((s : ℕ) → s < P.states → Biased b (v s) (u s))
      → Biased (total P (spare (times P F) b u)) (upper_sum P F v) (total P (extra (times P F) b u))
  unfolding upper_sum times spare extra
  upper_is b v u same =
      sum-biased P.states _ (spare (times P F) b u) (extra (times P F) b u)
      (λ s l. upper_term (F.absent 0 s) (F.present 0 s) (P.fixed s) b (v s) (u s) (same s l))

  -- The lower sum of an end is surpluses - shortfalls.
  pub lower_is : (k : ℕ) (w : ℕ → ℕ)
      → Biased (total P (shortfall P F k 10000 w)) (lower_sum P F k (λ s. signed (w s))) (total P (surplus P F k 10000 w))
  unfolding lower_sum surplus shortfall
  lower_is k w =
      sum-biased P.states _ (shortfall P F k 10000 w) (surplus P F k 10000 w) (λ s _. lower_term (F.absent k s) (F.present k s) (w s))

module _ (P : Protocol) (F : Facts) (w : ℕ → ℕ → ℕ) where
  abbrev y : ℕ → ℕ → ℤ
  y k s = signed (w k s)

  sums_is : (upper_sum P F (λ s. y 1 s +ℤ y 2 s) <ℤ (lower_sum P F 1 (y 1) +ℤ lower_sum P F 2 (y 2))) ↔ (reductions P F w < additions P F w)
  sums_is =
      let t = lt_parts (upper_sum P F (λ s. y 1 s +ℤ y 2 s)) (lower_sum P F 1 (y 1) +ℤ lower_sum P F 2 (y 2)) in
      let start = upper_is P F 20000 (λ s. y 1 s +ℤ y 2 s) (λ s. w 1 s + w 2 s) (λ s _. pair_parts (w 1 s) (w 2 s)) in
      let one = lower_is P F 1 (w 1) in
      let two = lower_is P F 2 (w 2) in
      let both = add_parts (lower_sum P F 1 (y 1)) (lower_sum P F 2 (y 2)) in
      (λ h. omega (arith, t.0 h, start, one, two, both), λ h. t.1 (omega (arith, start, one, two, both)))

  pub leaf_is : (leaf_closes P F w ≡ true) ↔ LeafRule P F y
  leaf_is = (
    λ e.
        let t = (leaf-closes P F w).0 e in
        record {
          rules = λ k i j r l u. (pair_le (w k (P.p' r)) (w k (P.q' r)) (w k (P.p r)) (w k (P.q r))).1 (t.rules k i j r l u);
          start = λ s l a n. (nonpos 20000 (y 1 s +ℤ y 2 s) (w 1 s + w 2 s) (pair_parts (w 1 s) (w 2 s))).1 (t.start s l a ((only_not P s).1 n));
          ends = λ k i j s l a n. t.ends k i j s l a ((negative (w k s)).0 n);
          sums = sums_is.1 t.sums;
        },
    λ t.
        (leaf-closes P F w).1 (record {
          rules = λ k i j r l u. (pair_le (w k (P.p' r)) (w k (P.q' r)) (w k (P.p r)) (w k (P.q r))).0 (t.rules k i j r l u);
          start = λ s l a n. (nonpos 20000 (y 1 s +ℤ y 2 s) (w 1 s + w 2 s) (pair_parts (w 1 s) (w 2 s))).0 (t.start s l a ((only_not P s).0 n));
          ends = λ k i j s l a n. t.ends k i j s l a ((negative (w k s)).1 n);
          sums = sums_is.0 t.sums;
        }),
  )
