-- An accepted claim sheet says what every terminal configuration shows. Assumes nothing.
use Rattle.std.specs.Prelude.{◌≡◌, refl, Bool, true, false, ◌↔◌, ◌⊎◌}
use Rattle.std.proofs.Common.{sym, ◌∙◌, inl, inr, ⊎_elim, leb-true, leb-false, le-leb}
use Rattle.std.proofs.Math.Path.{ap}
use mathlib.Core.List.{List, []}
use Prim.Native.Nat.{ℕ, zero, suc, ◌+◌, ◌-◌, ◌*◌, ◌<◌}
use Rattle.std.proofs.Math.Nat.{mul-le-mul_left}
use native.Mathlib.Omega.{arith}
use Rattle.theory.proofs.Bool.Laws.{by_test, not_both, is_true, is_false}
use Rattle.theory.specs.Weigh.{weigh}
use Rattle.theory.proofs.Weigh.Laws.{weigh_add, weigh_scale, weigh_mono}
use Rattle.theory.specs.Protocol.{Protocol, WellFormed, count, terminal, Shows, Start, after}
use Rattle.theory.specs.Facts.{Facts}
use Rattle.theory.proofs.Facts.Laws.{Runs, at, Holds}
use Rattle.theory.proofs.Leaf.Laws.{even_at, start_bound, end-bound, run_bound}
use Rattle.theory.specs.Tree.{Tree, next, refused, is_run, tree_answer}
use Rattle.theory.proofs.Tree.Laws.{by_answer, refused_not_next, Assumed, LeavesRefute, tree_refutes}
use Rattle.theory.proofs.Subtree.Laws.{next_same, refused_same, tree_next}
use Rattle.theory.specs.Potential.Runs.{Reach}
use Rattle.theory.proofs.Potential.Reached.{reach}
use Rattle.theory.specs.Sheet.{Sheet, Threshold, at_least, at_most, sheet_closes, counterexample, first_walk, second_walk, sheet_answer}
use Rattle.theory.specs.Sheet.Claimed.{is_reached, claimed}
use Rattle.theory.proofs.Sheet.Tests.{at_start, start_bias, sheet-closes}

-- ---- The walk of both trees

module _ (P : Protocol) (Z : Sheet) where
  first_next : (i : ℕ) → first_walk P Z ≡ next i → i ≡ Z.first.nodes
  first_next = tree_next P (counterexample P Z (at_least Z) false) Z.first

  second_next : (j : ℕ) → second_walk P Z ≡ next j → j ≡ Z.second.nodes
  second_next = tree_next P (counterexample P Z (at_most Z) true) Z.second

  -- Where the first tree is accepted, the answer is the second's, its nodes numbered on.
  pub then_next : (i j : ℕ) → first_walk P Z ≡ next i → second_walk P Z ≡ next j → sheet_answer P Z ≡ next (Z.first.nodes + j)
  unfolding sheet_answer
  then_next i j q r = rw (q, r, sheet_answer)

  pub then_refused : (i n j : ℕ) → first_walk P Z ≡ next i → second_walk P Z ≡ refused n j → sheet_answer P Z ≡ refused n (Z.first.nodes + j)
  unfolding sheet_answer
  then_refused i n j q r = rw (q, r, sheet_answer)

  pub first_refused : (n j : ℕ) → first_walk P Z ≡ refused n j → sheet_answer P Z ≡ refused n j
  unfolding sheet_answer
  first_refused n j q = rw (q, sheet_answer)

  -- The answer by the two walks.
  by_walks : {X : Type 0} → ((i j : ℕ) → first_walk P Z ≡ next i → second_walk P Z ≡ next j → X)
      → ((i n j : ℕ) → first_walk P Z ≡ next i → second_walk P Z ≡ refused n j → X) → ((n j : ℕ) → first_walk P Z ≡ refused n j → X) → X
  by_walks f g h = by_answer (first_walk P Z) (λ i q. by_answer (second_walk P Z) (λ j r. f i j q r) (λ n j r. g i n j q r)) h

  -- Where the answer is no refusal, both trees are accepted, and it is the number of all nodes.
  both_accepted : (m : ℕ) → sheet_answer P Z ≡ next m
      → (first_walk P Z ≡ next Z.first.nodes) × (second_walk P Z ≡ next Z.second.nodes) × (m ≡ Z.first.nodes + Z.second.nodes)
  both_accepted m e =
      by_walks
      (λ i j q r.
      let s = second_next j r in
      (q ∙ ap next (first_next i q), r ∙ ap next s, sym (next_same (sym (then_next i j q r) ∙ e)) ∙ ap (λ k. Z.first.nodes + k) s))
      (λ i n j q r. absurd (refused_not_next (sym (then_refused i n j q r) ∙ e)))
      (λ n j q. absurd (refused_not_next (sym (first_refused n j q) ∙ e)))

  pub answer_next : (m : ℕ) → sheet_answer P Z ≡ next m → m ≡ Z.first.nodes + Z.second.nodes
  answer_next m e = (both_accepted m e).2

  pub answer_accepted : (sheet_answer P Z ≡ next (Z.first.nodes + Z.second.nodes))
      ↔ ((first_walk P Z ≡ next Z.first.nodes) × (second_walk P Z ≡ next Z.second.nodes))
  answer_accepted = (
    λ e. let t = both_accepted (Z.first.nodes + Z.second.nodes) e in (t.0, t.1),
    λ t. then_next Z.first.nodes Z.second.nodes t.0 t.1,
  )

  -- A refusal is the first tree's; or the first is accepted, and it is the second's, at its place numbered on.
  pub answer_refused : (n k : ℕ) → (sheet_answer P Z ≡ refused n k)
      ↔ ((first_walk P Z ≡ refused n k)
      ⊎ ((first_walk P Z ≡ next Z.first.nodes) × ((j : ℕ) × (second_walk P Z ≡ refused n j) × (k ≡ Z.first.nodes + j))))
  answer_refused n k = (
    λ e.
        by_walks
        (λ i j q r. absurd (refused_not_next (sym e ∙ then_next i j q r)))
        (λ i m j q r.
        let s = refused_same (sym (then_refused i m j q r) ∙ e) in
        inr (q ∙ ap next (first_next i q), (j, r ∙ ap (λ a. refused a j) s.0, sym s.1)))
        (λ m j q. inl (q ∙ sym (first_refused m j q) ∙ e)),
    ⊎_elim
        (first_refused n k)
        (λ t. then_refused Z.first.nodes n t.1.0 t.0 t.1.1 ∙ ap (refused n) (sym t.1.2)),
  )

-- ---- What an accepted tree refutes

module _ (P : Protocol) (good : WellFormed P) (B : Threshold) where
  -- The facts of a leaf that closes do not hold of runs from a start that reaches the threshold.
  sheet_refutes : (σ : Runs P) (F : Facts) → Holds P F σ → is_reached B σ.start ≡ true → (w : ℕ → ℕ) (k : ℕ) → sheet_closes P B F w k ≡ true → ⊥
  unfolding is_reached
  sheet_refutes σ F h reached w k e =
      let t = (sheet-closes P B F w k).0 e in
      let b = start_bias P B F w k in
      let v : ℕ → ℕ = at_start P B F w k in
      omega (
        arith,
        t.sums,
        run_bound P good σ F h 1 w t.rules,
        start_bound P good σ F h b v t.start,
        end-bound P good σ F h 1 10000 w t.ends,
        ap (weigh v) σ.still,
        ap (weigh (λ _. b)) σ.still,
        weigh_add w (λ s. k * B.numbers s) σ.start,
        weigh_scale k B.numbers σ.start,
        weigh_add (λ _. 10000) (λ _. k * 32768) σ.start,
        weigh_scale k (λ _. 32768) σ.start,
        mul-le-mul_left k (leb-true (weigh (λ _. 32768) σ.start + B.plus) (weigh B.numbers σ.start + B.minus) reached),
        even_at P good σ 10000 1,
      )

  -- From a start that reaches the threshold no terminal configuration has an occupied state of output v.
  refuted : (Z : Sheet) (v : Bool) (T : Tree) (j : ℕ) → tree_answer P (counterexample P Z B v) T ≡ next j
      → (c : List ℕ) → Start P c → is_reached B c ≡ true
      → (x : Reach P c) → terminal P x.end ≡ true → (s : ℕ) → 0 < count x.end s → P.output s ≡ v → ⊥
  unfolding counterexample is_run after
  refuted Z v T j accepted c start reached x f s i u = tree_refutes P good σ (counterexample P Z B v) assumed T leaves j accepted
    where
      run : ℕ → Reach P c
      run zero = reach P good c [] start.sized
      run (suc k) = x

      σ : Runs P
      σ = record { start = c; run = run; starts = start; still = refl }

      leaves : LeavesRefute P (counterexample P Z B v) σ
      leaves =
          record {
            by_sum = λ F l e h. sheet_refutes σ F h reached (Z.weights l) (Z.multiplier l) e;
            by_remainder = λ m F l e h. not_both {b = false} e refl;
          }

      rests : (k : ℕ) → is_run P (counterexample P Z B v) k ≡ true → terminal P (at P σ k) ≡ true
      rests zero e = absurd (not_both {b = false} e refl)
      rests (suc k) e = f

      shows : (k : ℕ) → is_run P (counterexample P Z B v) k ≡ true → (s : ℕ) × (0 < count (at P σ k) s) × (P.output s ≡ v)
      shows zero e = absurd (not_both {b = false} e refl)
      shows (suc k) e = (s, i, u)

      assumed : Assumed P (counterexample P Z B v) σ
      assumed = record { rests = rests; shows = shows }

-- ---- The claim

-- A sum that is not at least the limit is at most one less.
one_less : (Z : Sheet) (c : List ℕ) → is_reached (at_least Z) c ≡ false → is_reached (at_most Z) c ≡ true
unfolding is_reached at_least at_most
one_less Z c e =
    le-leb (weigh (λ _. 32768) c + (at_most Z).plus) (weigh (at_most Z).numbers c + (at_most Z).minus)
    (omega (
      arith,
      leb-false (weigh (λ _. 32768) c + Z.limit) (weigh Z.numbers c + 2147483648) e,
      weigh_mono (λ _. 65536) (λ s. (65536 - Z.numbers s) + Z.numbers s) c (λ s _. omega arith),
      weigh_add (λ s. 65536 - Z.numbers s) Z.numbers c,
      weigh_add (λ _. 32768) (λ _. 32768) c,
    ))

-- Every terminal configuration potentially reachable from a start shows what an accepted sheet claims.
pub sheet_decides : (P : Protocol) → WellFormed P → (Z : Sheet) (m : ℕ) → sheet_answer P Z ≡ next m
    → (c : List ℕ) → Start P c → (x : Reach P c) → terminal P x.end ≡ true → Shows P (claimed Z c) x.end
unfolding claimed
sheet_decides P good Z m e c start x f s occupied =
    let t = both_accepted P Z m e in
    by_test (is_reached (at_least Z) c)
    (λ high.
    rw high
    (is_true (P.output s) (λ u. refuted P good (at_least Z) Z false Z.first Z.first.nodes t.0 c start high x f s occupied u)))
    (λ low.
    rw low
    (is_false (P.output s)
    (λ u. refuted P good (at_most Z) Z true Z.second Z.second.nodes t.1 c start (one_less Z c low) x f s occupied u)))
