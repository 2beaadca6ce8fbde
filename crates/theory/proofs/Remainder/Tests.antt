-- The remainder rule, test by test. Assumes nothing.
use Rattle.std.specs.Prelude.{◌≡◌, true, false, ◌||◌, ◌↔◌, ◌⊎◌, ℕ, ◌+◌, ◌≤◌, ◌<◌}
use Rattle.std.proofs.Math.Path.{ap}
use Rattle.std.proofs.Math.Bool.{not}
use Rattle.std.proofs.Math.Logic.{⊎_elim}
use Rattle.std.proofs.Common.{arith}
use borrow.Author.Tests.{not-true}
use Rattle.theory.proofs.Bool.Laws.{by_test, or_left, or_right, or_elim, or_resolve, all_six}
use Rattle.theory.proofs.Below.Laws.{all_unless}
use Rattle.theory.specs.Protocol.{Protocol, only_fixed}
use Rattle.theory.specs.Facts.{Facts}
use Rattle.theory.specs.Leaf.{extra, spare, total}
use Rattle.theory.proofs.Leaf.Tests.{at_ends_lem}
use Rattle.theory.specs.Remainder.{congruent, exactly_one, known, conserved, start_vanishes, end_vanishes, excess, deficit, remainder_closes}

module _ (P : Protocol) (m : ℕ) (F : Facts) where
  abbrev pub additions : (ℕ → ℕ → ℕ) → ℕ
  additions w = total P (excess F 1 10000 (w 1)) + total P (excess F 2 10000 (w 2)) + total P (spare (known P F) 20000 (λ s. w 1 s + w 2 s))

  abbrev pub reductions : (ℕ → ℕ → ℕ) → ℕ
  reductions w = total P (deficit F 1 10000 (w 1)) + total P (deficit F 2 10000 (w 2)) + total P (extra (known P F) 20000 (λ s. w 1 s + w 2 s))

  -- Every rule that is not unused in run k conserves v modulo m.
  abbrev pub Conserves : ℕ → (ℕ → ℕ) → Type 0
  Conserves k v = (r : ℕ) → r < P.rules → F.unused k r ≡ false → congruent m (v (P.p' r) + v (P.q' r)) (v (P.p r) + v (P.q r)) ≡ true

  -- v is b modulo m where a state is not absent at the start and is an input or has no fixed agents.
  abbrev pub Vanishes : ℕ → (ℕ → ℕ) → Type 0
  Vanishes b v = (s : ℕ) → s < P.states → F.absent 0 s ≡ false → only_fixed P s ≡ false → congruent m (v s) b ≡ true

  -- A state that is not absent at end k has b modulo m, or holds exactly one agent there.
  abbrev pub VanishesAt : ℕ → ℕ → (ℕ → ℕ) → Type 0
  VanishesAt b k v = (s : ℕ) → s < P.states → F.absent k s ≡ false → (congruent m (v s) b ≡ true) ⊎ (exactly_one F k s ≡ true)

  -- The remainder rule, test by test.
  pub record ClosesModulo (w : ℕ → ℕ → ℕ) : Type 0 where
    pub rules : (k : ℕ) → 1 ≤ k → k ≤ 2 → Conserves k (w k)
    pub start : Vanishes 20000 (λ s. w 1 s + w 2 s)
    pub ends : (k : ℕ) → 1 ≤ k → k ≤ 2 → VanishesAt 10000 k (w k)
    pub sums : congruent m (additions w) (reductions w) ≡ false

  conserves : (k : ℕ) (v : ℕ → ℕ) → (conserved P m (F.unused k) v ≡ true) ↔ Conserves k v
  unfolding conserved
  conserves k v = all_unless P.rules (F.unused k) _

  vanishes : (b : ℕ) (v : ℕ → ℕ) → (start_vanishes P m F b v ≡ true) ↔ Vanishes b v
  unfolding start_vanishes
  vanishes b v =
      let t = all_unless P.states (F.absent 0) (λ s. only_fixed P s || congruent m (v s) b) in (
        λ e s l a n. or_resolve _ _ n (t.0 e s l a),
        λ h. t.1 (λ s l a. by_test (only_fixed P s) (or_left _ _) (λ n. or_right (only_fixed P s) (congruent m (v s) b) (h s l a n))),
      )

  vanishes_at : (b k : ℕ) (v : ℕ → ℕ) → (end_vanishes P m F k b v ≡ true) ↔ VanishesAt b k v
  unfolding end_vanishes
  vanishes_at b k v =
      let t = all_unless P.states (F.absent k) (λ s. congruent m (v s) b || exactly_one F k s) in (
        λ e s l a. or_elim _ _ (t.0 e s l a),
        λ h. t.1 (λ s l a. ⊎_elim (or_left _ _) (or_right (congruent m (v s) b) (exactly_one F k s)) (h s l a)),
      )

  pub remainder_closes_lem : (w : ℕ → ℕ → ℕ) → (remainder_closes P m F w ≡ true) ↔ ClosesModulo w
  unfolding remainder_closes
  remainder_closes_lem w =
      let six = all_six
      (conserved P m (F.unused 1) (w 1))
      (conserved P m (F.unused 2) (w 2))
      (start_vanishes P m F 20000 (λ s. w 1 s + w 2 s))
      (end_vanishes P m F 1 10000 (w 1))
      (end_vanishes P m F 2 10000 (w 2))
      (not (congruent m (additions w) (reductions w))) in (
        λ e.
            let t = six.0 e in
            record {
              rules = at_ends_lem (λ k. Conserves k (w k)) ((conserves 1 (w 1)).0 t.0) ((conserves 2 (w 2)).0 t.1);
              start = (vanishes 20000 (λ s. w 1 s + w 2 s)).0 t.2;
              ends = at_ends_lem (λ k. VanishesAt 10000 k (w k)) ((vanishes_at 10000 1 (w 1)).0 t.3) ((vanishes_at 10000 2 (w 2)).0 t.4);
              sums = not-true _ t.5;
            },
        λ t. six.1 (
          (conserves 1 (w 1)).1 (t.rules 1 (omega arith) (omega arith)),
          (conserves 2 (w 2)).1 (t.rules 2 (omega arith) (omega arith)),
          (vanishes 20000 (λ s. w 1 s + w 2 s)).1 t.start,
          (vanishes_at 10000 1 (w 1)).1 (t.ends 1 (omega arith) (omega arith)),
          (vanishes_at 10000 2 (w 2)).1 (t.ends 2 (omega arith) (omega arith)),
          ap not t.sums,
        ),
      )
