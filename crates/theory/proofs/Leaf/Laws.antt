-- A leaf that closes refutes its facts. Assumes nothing.
use Rattle.std.specs.Prelude.{◌≡◌, true, false, not, ℕ, zero, suc, ◌+◌, ◌-◌, ◌*◌, ◌≤◌, ◌<◌, ltb}
use Rattle.std.proofs.Common.{ap, mul-le-mul_right, arith}
use Rattle.std.proofs.Math.Logic.{by_cases}
use Rattle.std.proofs.Math.Decide.{dec_lt}
use Rattle.theory.proofs.Bool.Laws.{by_test, is_false, and_elim}
use Rattle.theory.specs.Weigh.{weigh}
use Rattle.theory.proofs.Weigh.Laws.{weigh_add, weigh_compare}
use Rattle.theory.specs.Protocol.{Protocol, WellFormed, count, only_fixed}
use Rattle.theory.proofs.Protocol.Laws.{start_fixed, start_only}
use Rattle.theory.specs.Facts.{Facts}
use Rattle.theory.proofs.Facts.Laws.{Runs, at, length_at, Holds}
use Rattle.theory.proofs.Potential.Laws.{weigh-kept, even_kept}
use Rattle.theory.specs.Leaf.{extra, spare, total, times, surplus, shortfall, leaf_closes}
use Rattle.theory.proofs.Leaf.Tests.{Falls, AtMost, FewBelow, leaf-closes}

-- At least m agents of a weight a or more: what is over a counts m times.
over : (a b c m : ℕ) → a ≤ b → m ≤ c → a * c + m * (b - a) ≤ b * c
over a b c m l h =
    let e : b ≡ a + (b - a) = omega arith in
    let t : a * c + m * (b - a) ≤ (a + (b - a)) * c = split a (b - a) c m h in
    rw (← e) at t
  where
    split : (a d c m : ℕ) → m ≤ c → a * c + m * d ≤ (a + d) * c
    split a d c m h = omega (arith, mul-le-mul_right d h)

-- All m agents of a weight a, above b or below.
pub even : (a b m : ℕ) → a * m + m * (b - a) ≡ b * m + m * (a - b)
even a b m =
    by_cases (dec_lt a b)
    (λ l. let z : a - b ≡ 0 = omega arith in let e : b ≡ a + (b - a) = omega arith in omega (arith, ap (λ n. m * n) z, ap (λ n. m * n) e))
    (λ g. let z : b - a ≡ 0 = omega arith in let e : a ≡ b + (a - b) = omega arith in omega (arith, ap (λ n. m * n) z, ap (λ n. m * n) e))

-- At most one agent of a weight below b: what is missing counts once.
under : (a b c : ℕ) → a ≤ b → c ≤ 1 → b * c ≤ a * c + (b - a)
under a b zero l h = omega arith
under a b (suc zero) l h = omega arith
under a b (suc (suc c)) l h = absurd (omega arith)

module _ (P : Protocol) (good : WellFormed P) (σ : Runs P) where
  pub even_at : (b k : ℕ) → weigh (λ _. b) (at P σ k) ≡ weigh (λ _. b) σ.start
  even_at b k = even_kept P good σ.starts.sized (σ.run k).potential b

module _ (P : Protocol) (good : WellFormed P) (σ : Runs P) (F : Facts) (h : Holds P F σ) where
  -- The start holds at least as many agents as a state joins for, and no more where they are only fixed ones.
  module _ (s : ℕ) (l : s < P.states) where
    times_le : times P F s ≤ count (at P σ 0) s
    unfolding times
    times_le =
        let f : P.fixed s ≤ count (at P σ 0) s = rw σ.still (start_fixed P σ.start σ.starts s l) in
        by_test (F.absent 0 s)
        (λ q. by_test (ltb 0 (P.fixed s)) (λ z. rw (q, z) (omega arith)) (λ z. rw (q, z) (omega arith)))
        (λ q.
        by_test (ltb 0 (P.fixed s))
        (λ z. rw (q, z) (omega arith))
        (λ z. by_test (F.present 0 s) (λ p. rw (q, z, p) (omega (arith, h.present 0 s p))) (λ p. rw (q, z, p) (omega arith))))

    times-only : F.absent 0 s ≡ false → only_fixed P s ≡ true → times P F s ≡ count (at P σ 0) s
    unfolding times
    times-only q e =
        let f : count (at P σ 0) s ≡ P.fixed s = rw σ.still (start_only P σ.start σ.starts s l e) in
        let z = (and_elim (ltb 0 (P.fixed s)) (not (P.input s)) e).0 in
        rw (q, z) (omega arith)

  start_term : (b : ℕ) (w : ℕ → ℕ) (s : ℕ) → s < P.states → (F.absent 0 s ≡ false → only_fixed P s ≡ false → w s ≤ b)
      → w s * count (at P σ 0) s + spare (times P F) b w s ≤ b * count (at P σ 0) s + extra (times P F) b w s
  unfolding spare extra
  start_term b w s l low =
      let n = count (at P σ 0) s in
      by_test (F.absent 0 s)
      (λ q. let z = h.absent 0 s q in let t : times P F s ≡ 0 = omega (arith, times_le s l) in rw (z, t) (omega arith))
      (λ q.
      by_test (only_fixed P s)
      (λ z. rw (times-only s l q z) (omega (arith, even (w s) b n)))
      (λ z. omega (arith, over (w s) b n (times P F s) (low q z) (times_le s l))))

  end_term : (k b : ℕ) (w : ℕ → ℕ) (s : ℕ) → (F.absent k s ≡ false → w s < b → F.at_most_one k s ≡ true)
      → b * count (at P σ k) s + surplus P F k b w s ≤ w s * count (at P σ k) s + shortfall P F k b w s
  unfolding surplus shortfall
  end_term k b w s few =
      by_test (F.absent k s)
      (λ q. rw (q, h.absent k s q) (omega arith))
      (λ q.
      by_cases (dec_lt (w s) b)
      (λ l.
      let one : count (at P σ k) s ≤ 1 = h.at_most_one k s (few q l) in
      by_test (F.present k s)
      (λ p. rw (q, p) (omega (arith, under (w s) b (count (at P σ k) s) (omega arith) one)))
      (λ p. rw (q, p) (omega (arith, under (w s) b (count (at P σ k) s) (omega arith) one))))
      (λ g.
      by_test (F.present k s)
      (λ p. rw (q, p) (omega (arith, over b (w s) (count (at P σ k) s) 1 (omega arith) (h.present k s p))))
      (λ p. rw (q, p) (omega (arith, over b (w s) (count (at P σ k) s) 0 (omega arith) (omega arith))))))

  -- The start weighs at most its size times the bias, with the extras and less the spares.
  pub start_bound : (b : ℕ) (w : ℕ → ℕ) → AtMost P F b w
      → weigh w (at P σ 0) + total P (spare (times P F) b w) ≤ weigh (λ _. b) (at P σ 0) + total P (extra (times P F) b w)
  start_bound b w low =
      rw (length_at P σ 0) at
      (weigh_compare (at P σ 0) w (λ _. b) (spare (times P F) b w) (extra (times P F) b w)
      (λ s l. let k : s < P.states = omega (arith, length_at P σ 0) in start_term b w s k (low s k)))

  -- An end weighs at least its size times the bias, with the surpluses and less the shortfalls.
  pub end-bound : (k b : ℕ) (w : ℕ → ℕ) → FewBelow P F b k w
      → weigh (λ _. b) (at P σ k) + total P (surplus P F k b w) ≤ weigh w (at P σ k) + total P (shortfall P F k b w)
  end-bound k b w few =
      rw (length_at P σ k) at
      (weigh_compare (at P σ k) (λ _. b) w (surplus P F k b w) (shortfall P F k b w)
      (λ s l. end_term k b w s (few s (omega (arith, length_at P σ k)))))

  -- A run does not raise a weight that its rules do not raise.
  pub run_bound : (k : ℕ) (w : ℕ → ℕ) → Falls P F k w → weigh w (at P σ k) ≤ weigh w σ.start
  run_bound k w falls =
      weigh-kept P good σ.starts.sized (σ.run k).potential w
      (λ r l u. falls r l (is_false _ (λ (t : F.unused k r ≡ true). omega (arith, h.unused k r t))))

  -- The facts of a leaf that closes do not hold.
  pub leaf_refutes : (w : ℕ → ℕ → ℕ) → leaf_closes P F w ≡ true → ⊥
  leaf_refutes w e =
      let t = (leaf-closes P F w).0 e in
      omega (
        arith,
        t.sums,
        run_bound 1 (w 1) (t.rules 1 (omega arith) (omega arith)),
        run_bound 2 (w 2) (t.rules 2 (omega arith) (omega arith)),
        start_bound 20000 (λ s. w 1 s + w 2 s) t.start,
        end-bound 1 10000 (w 1) (t.ends 1 (omega arith) (omega arith)),
        end-bound 2 10000 (w 2) (t.ends 2 (omega arith) (omega arith)),
        ap (weigh (λ s. w 1 s + w 2 s)) σ.still,
        ap (weigh (λ _. 20000)) σ.still,
        weigh_add (w 1) (w 2) σ.start,
        weigh_add (λ _. 10000) (λ _. 10000) σ.start,
        even_at P good σ 10000 1,
        even_at P good σ 10000 2,
      )
