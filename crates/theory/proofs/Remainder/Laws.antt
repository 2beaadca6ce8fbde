-- A leaf that closes by its remainder refutes its facts. Assumes nothing.
use Rattle.std.specs.Prelude.{◌≡◌, not, ◌&&◌, ℕ, ◌+◌, ◌*◌, ◌<◌}
use Rattle.std.proofs.Common.{ap, arith}
use Rattle.std.proofs.Math.Bool.{true}
use Rattle.std.proofs.Math.Logic.{⊎_elim}
use Rattle.theory.proofs.Bool.Laws.{by_test, not_both, and_elim}
use Rattle.theory.specs.Weigh.{weigh}
use Rattle.theory.proofs.Weigh.Laws.{weigh_add}
use Rattle.theory.specs.Protocol.{Protocol, WellFormed, count, only_fixed}
use Rattle.theory.proofs.Protocol.Laws.{start_only}
use Rattle.theory.specs.Facts.{Facts}
use Rattle.theory.proofs.Facts.Laws.{Runs, at, length_at, Holds}
use Rattle.theory.proofs.Potential.Laws.{flow_weigh}
use Rattle.theory.specs.Leaf.{extra, spare, total}
use Rattle.theory.proofs.Leaf.Laws.{even, even_at}
use Rattle.theory.specs.Remainder.{congruent, exactly_one, known, excess, deficit, remainder_closes}
use Rattle.theory.proofs.Remainder.Congruence.{Congruent, congruent_is, congruent-times, congruent-sum, congruent-weigh}
use Rattle.theory.proofs.Remainder.Tests.{Conserves, Vanishes, VanishesAt, additions, reductions, remainder_closes_lem}

module _ (P : Protocol) (good : WellFormed P) (m : ℕ) (σ : Runs P) (F : Facts) (h : Holds P F σ) where
  -- A run keeps the remainder of a weight that its rules conserve.
  run_conserves : (k : ℕ) (w : ℕ → ℕ) → Conserves P m F k w → Congruent m (weigh w (at P σ k)) (weigh w σ.start)
  run_conserves k w keeps =
      let x = (σ.run k).through in
      let before : ℕ → ℕ = λ r. w (P.p r) + w (P.q r) in
      let after : ℕ → ℕ = λ r. w (P.p' r) + w (P.q' r) in
      let c =
      congruent-sum m P.rules (λ r. x r * after r) (λ r. x r * before r)
      (λ r l.
      by_test (F.unused k r)
      (λ u. rw (h.unused k r u) (0, 0, omega arith))
      (λ u. let t = congruent-times m (after r) (before r) (x r) (keeps r l u) in (t.0, t.1, omega (arith, t.2)))) in
      (c.0, c.1, omega (arith, c.2, flow_weigh P good σ.starts.sized (σ.run k).potential w))

  -- A state at the start weighs the bias, modulo m, with its extra and less its spare.
  start_term : (b : ℕ) (w : ℕ → ℕ) (s : ℕ) → s < P.states → Vanishes P m F b w
      → Congruent m (w s * count (at P σ 0) s + spare (known P F) b w s) (b * count (at P σ 0) s + extra (known P F) b w s)
  unfolding spare extra known
  start_term b w s l none =
      by_test (F.absent 0 s)
      (λ q. rw (q, h.absent 0 s q) (0, 0, omega arith))
      (λ q.
      by_test (only_fixed P s)
      (λ z.
      let n : count (at P σ 0) s ≡ P.fixed s = rw σ.still (start_only P σ.start σ.starts s l z) in
      rw (q, z, n) (0, 0, omega (arith, even (w s) b (P.fixed s))))
      (λ z.
      let t = congruent-times m (w s) b (count (at P σ 0) s) (none s l q z) in
      rw (q, z) (t.0, t.1, omega (arith, t.2))))

  start_vanishes_lem : (b : ℕ) (w : ℕ → ℕ) → Vanishes P m F b w
      → Congruent m (weigh w (at P σ 0) + total P (spare (known P F) b w)) (weigh (λ _. b) (at P σ 0) + total P (extra (known P F) b w))
  start_vanishes_lem b w none =
      rw (length_at P σ 0) at
      (congruent-weigh m (at P σ 0) w (λ _. b) (spare (known P F) b w) (extra (known P F) b w)
      (λ s l. start_term b w s (omega (arith, length_at P σ 0)) none))

  one_agent : (k s : ℕ) → exactly_one F k s ≡ true → count (at P σ k) s ≡ 1
  unfolding exactly_one
  one_agent k s e =
      let t = and_elim (not (F.absent k s) && F.present k s) (F.at_most_one k s) e in
      omega (arith, h.present k s (and_elim (not (F.absent k s)) (F.present k s) t.0).1, h.at_most_one k s t.1)

  -- A state at an end weighs the bias, modulo m, with its excess and less its deficit.
  end_term : (k b : ℕ) (w : ℕ → ℕ) (s : ℕ) → s < P.states → VanishesAt P m F b k w
      → Congruent m (w s * count (at P σ k) s + deficit F k b w s) (b * count (at P σ k) s + excess F k b w s)
  unfolding excess deficit
  end_term k b w s l none =
      by_test (exactly_one F k s)
      (λ z. rw (z, one_agent k s z) (0, 0, omega arith))
      (λ z.
      by_test (F.absent k s)
      (λ q. rw (z, h.absent k s q) (0, 0, omega arith))
      (λ q.
      let e : congruent m (w s) b ≡ true = ⊎_elim (λ e. e) (λ y. absurd (not_both y z)) (none s l q) in
      let t = congruent-times m (w s) b (count (at P σ k) s) e in
      rw z (t.0, t.1, omega (arith, t.2))))

  end_vanishes_lem : (k b : ℕ) (w : ℕ → ℕ) → VanishesAt P m F b k w
      → Congruent m (weigh w (at P σ k) + total P (deficit F k b w)) (weigh (λ _. b) (at P σ k) + total P (excess F k b w))
  end_vanishes_lem k b w none =
      rw (length_at P σ k) at
      (congruent-weigh m (at P σ k) w (λ _. b) (deficit F k b w) (excess F k b w)
      (λ s l. end_term k b w s (omega (arith, length_at P σ k)) none))

  -- The facts of a leaf that closes do not hold.
  pub remainder_refutes : (w : ℕ → ℕ → ℕ) → remainder_closes P m F w ≡ true → ⊥
  remainder_refutes w e =
      let t = (remainder_closes_lem P m F w).0 e in
      let r1 = run_conserves 1 (w 1) (t.rules 1 (omega arith) (omega arith)) in
      let r2 = run_conserves 2 (w 2) (t.rules 2 (omega arith) (omega arith)) in
      let s = start_vanishes_lem 20000 (λ s. w 1 s + w 2 s) t.start in
      let e1 = end_vanishes_lem 1 10000 (w 1) (t.ends 1 (omega arith) (omega arith)) in
      let e2 = end_vanishes_lem 2 10000 (w 2) (t.ends 2 (omega arith) (omega arith)) in
      let c : Congruent m (additions P m F w) (reductions P m F w) = (
        e1.1 + e2.1 + r1.0 + r2.0 + s.0,
        s.1 + r1.1 + r2.1 + e1.0 + e2.0,
        omega (
          arith,
          r1.2,
          r2.2,
          s.2,
          e1.2,
          e2.2,
          ap (weigh (λ s. w 1 s + w 2 s)) σ.still,
          ap (weigh (λ _. 20000)) σ.still,
          weigh_add (w 1) (w 2) σ.start,
          weigh_add (λ _. 10000) (λ _. 10000) σ.start,
          even_at P good σ 10000 1,
          even_at P good σ 10000 2,
        ),
      ) in
      not_both ((congruent_is m (additions P m F w) (reductions P m F w)).1 c) t.sums
