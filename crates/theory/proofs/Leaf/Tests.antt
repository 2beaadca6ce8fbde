-- The leaf rule, test by test. Assumes nothing.
use Rattle.std.specs.Prelude.{◌≡◌, true, false, ◌||◌, ◌↔◌, ℕ, zero, suc, ◌+◌, ◌≤◌, ◌<◌, ltb}
use Rattle.std.proofs.Common.{arith}
use Rattle.std.proofs.Math.Dec.{leb}
use borrow.Author.Tests.{ltb-true, lt-ltb, leb-true, leb-false, le-leb, lt-leb}
use Rattle.theory.proofs.Bool.Laws.{by_test, or_left, or_right, or_resolve, all_six}
use Rattle.theory.proofs.Below.Laws.{all_unless}
use Rattle.theory.specs.Protocol.{Protocol, only_fixed}
use Rattle.theory.specs.Facts.{Facts}
use Rattle.theory.specs.Leaf.{extra, spare, total, non_increasing, start_fits, times, end_fits, surplus, shortfall, leaf_closes}

-- What holds at 1 and at 2 holds at each end.
pub at_ends_lem : (Q : ℕ → Type 0) → Q 1 → Q 2 → (k : ℕ) → 1 ≤ k → k ≤ 2 → Q k
at_ends_lem Q x y zero l m = absurd (omega arith)
at_ends_lem Q x y (suc zero) l m = x
at_ends_lem Q x y (suc (suc zero)) l m = y
at_ends_lem Q x y (suc (suc (suc k))) l m = absurd (omega arith)

module _ (P : Protocol) (F : Facts) where
  abbrev pub reductions : (ℕ → ℕ → ℕ) → ℕ
  reductions w = total P (shortfall P F 1 10000 (w 1)) + total P (shortfall P F 2 10000 (w 2)) + total P (extra (times P F) 20000 (λ s. w 1 s + w 2 s))

  abbrev pub additions : (ℕ → ℕ → ℕ) → ℕ
  additions w = total P (surplus P F 1 10000 (w 1)) + total P (surplus P F 2 10000 (w 2)) + total P (spare (times P F) 20000 (λ s. w 1 s + w 2 s))

  -- No rule that is not unused raises v in run k.
  abbrev pub Falls : ℕ → (ℕ → ℕ) → Type 0
  Falls k v = (r : ℕ) → r < P.rules → F.unused k r ≡ false → v (P.p' r) + v (P.q' r) ≤ v (P.p r) + v (P.q r)

  -- v is at most b where a state is not absent at the start and is an input or has no fixed agents.
  abbrev pub AtMost : ℕ → (ℕ → ℕ) → Type 0
  AtMost b v = (s : ℕ) → s < P.states → F.absent 0 s ≡ false → only_fixed P s ≡ false → v s ≤ b

  -- A state that is not absent at end k and has less than b holds at most one agent there.
  abbrev pub FewBelow : ℕ → ℕ → (ℕ → ℕ) → Type 0
  FewBelow b k v = (s : ℕ) → s < P.states → F.absent k s ≡ false → v s < b → F.at_most_one k s ≡ true

  -- The leaf rule, test by test.
  pub record Closes (w : ℕ → ℕ → ℕ) : Type 0 where
    pub rules : (k : ℕ) → 1 ≤ k → k ≤ 2 → Falls k (w k)
    pub start : AtMost 20000 (λ s. w 1 s + w 2 s)
    pub ends : (k : ℕ) → 1 ≤ k → k ≤ 2 → FewBelow 10000 k (w k)
    pub sums : reductions w < additions w

  pub falls : (k : ℕ) (v : ℕ → ℕ) → (non_increasing P (F.unused k) v ≡ true) ↔ Falls k v
  unfolding non_increasing
  falls k v =
      let t = all_unless P.rules (F.unused k) (λ r. leb (v (P.p' r) + v (P.q' r)) (v (P.p r) + v (P.q r))) in
      (λ e r l u. leb-true _ _ (t.0 e r l u), λ h. t.1 (λ r l u. le-leb _ _ (h r l u)))

  pub at_most : (b : ℕ) (v : ℕ → ℕ) → (start_fits P F b v ≡ true) ↔ AtMost b v
  unfolding start_fits
  at_most b v =
      let t = all_unless P.states (F.absent 0) (λ s. only_fixed P s || leb (v s) b) in (
        λ e s l a n. leb-true _ _ (or_resolve _ _ n (t.0 e s l a)),
        λ h. t.1 (λ s l a. by_test (only_fixed P s) (or_left _ _) (λ n. or_right (only_fixed P s) (leb (v s) b) (le-leb _ _ (h s l a n)))),
      )

  pub few-below : (b k : ℕ) (v : ℕ → ℕ) → (end_fits P F k b v ≡ true) ↔ FewBelow b k v
  unfolding end_fits
  few-below b k v =
      let t = all_unless P.states (F.absent k) (λ s. leb b (v s) || F.at_most_one k s) in (
        λ e s l a n. or_resolve _ _ (lt-leb b (v s) n) (t.0 e s l a),
        λ h. t.1 (λ s l a. by_test (leb b (v s)) (or_left _ _) (λ e. or_right (leb b (v s)) (F.at_most_one k s) (h s l a (leb-false _ _ e)))),
      )

  pub leaf-closes : (w : ℕ → ℕ → ℕ) → (leaf_closes P F w ≡ true) ↔ Closes w
  unfolding leaf_closes
  leaf-closes w =
      let six = all_six
      (non_increasing P (F.unused 1) (w 1))
      (non_increasing P (F.unused 2) (w 2))
      (start_fits P F 20000 (λ s. w 1 s + w 2 s))
      (end_fits P F 1 10000 (w 1))
      (end_fits P F 2 10000 (w 2))
      (ltb (reductions w) (additions w)) in (
        λ e.
            let t = six.0 e in
            record {
              rules = at_ends_lem (λ k. Falls k (w k)) ((falls 1 (w 1)).0 t.0) ((falls 2 (w 2)).0 t.1);
              start = (at_most 20000 (λ s. w 1 s + w 2 s)).0 t.2;
              ends = at_ends_lem (λ k. FewBelow 10000 k (w k)) ((few-below 10000 1 (w 1)).0 t.3) ((few-below 10000 2 (w 2)).0 t.4);
              sums = ltb-true (reductions w) (additions w) t.5;
            },
        λ t. six.1 (
          (falls 1 (w 1)).1 (t.rules 1 (omega arith) (omega arith)),
          (falls 2 (w 2)).1 (t.rules 2 (omega arith) (omega arith)),
          (at_most 20000 (λ s. w 1 s + w 2 s)).1 t.start,
          (few-below 10000 1 (w 1)).1 (t.ends 1 (omega arith) (omega arith)),
          (few-below 10000 2 (w 2)).1 (t.ends 2 (omega arith) (omega arith)),
          lt-ltb (reductions w) (additions w) t.sums,
        ),
      )
