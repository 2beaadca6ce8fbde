-- An accepted tree: all terminal configurations potentially reachable from one start show one output, whatever its size.
-- Assumes nothing.
use Rattle.std.specs.Prelude.{◌≡◌, Bool, true, false, List, [], ℕ, zero, suc, ◌<◌, leb, eqb}
use Rattle.std.proofs.Math.Path.{refl}
use Rattle.std.proofs.Common.{sym, ◌∙◌, arith, leb-true, eq-eqb}
use Rattle.theory.proofs.Bool.Laws.{by_test, not_both, and_elim}
use Rattle.theory.proofs.Weigh.Laws.{weigh-some}
use Rattle.theory.specs.Protocol.{Protocol, WellFormed, count, size, terminal, Shows, Start, after}
use Rattle.theory.proofs.Facts.Laws.{Runs, at}
use Rattle.theory.proofs.Leaf.Laws.{leaf_refutes}
use Rattle.theory.proofs.Remainder.Laws.{remainder_refutes}
use Rattle.theory.specs.Tree.{Tree, next, disagreement, is_run, tree_answer}
use Rattle.theory.proofs.Tree.Laws.{Assumed, LeavesRefute, tree_refutes}
use Rattle.theory.specs.Potential.Runs.{Reach}
use Rattle.theory.proofs.Potential.Laws.{even_kept}
use Rattle.theory.proofs.Potential.Reached.{reach}

module _ (P : Protocol) (good : WellFormed P) (weights : ℕ → ℕ → ℕ → ℕ) (T : Tree) (j : ℕ) (accepted : tree_answer P (disagreement P weights) T ≡ next j) where
  module _ (c : List ℕ) (start : Start P c) where
    runs : Reach P c → Reach P c → ℕ → Reach P c
    runs x y zero = reach P good c [] start.sized
    runs x y (suc zero) = x
    runs x y (suc (suc k)) = y

    opposed : (x y : Reach P c) → terminal P x.end ≡ true → terminal P y.end ≡ true
        → (s t : ℕ) → 0 < count x.end s → 0 < count y.end t → P.output s ≡ false → P.output t ≡ true → ⊥
    unfolding runs disagreement is_run after
    opposed x y f g s t i k u v = tree_refutes P good σ (disagreement P weights) assumed T leaves j accepted
      where
        σ : Runs P
        σ = record { start = c; run = runs x y; starts = start; still = refl }

        leaves : LeavesRefute P (disagreement P weights) σ
        leaves =
            record {
              by_sum = λ F l e h. leaf_refutes P good σ F h (weights l) e;
              by_remainder = λ m F l e h. remainder_refutes P good m σ F h (weights l) e;
            }

        second : (k : ℕ) → is_run P (disagreement P weights) (suc (suc k)) ≡ true → eqb (suc (suc k)) 2 ≡ true
        second k e = eq-eqb (suc (suc k)) 2 (omega (arith, leb-true (suc (suc k)) 2 (and_elim (leb 1 (suc (suc k))) (leb (suc (suc k)) 2) e).1))

        rests : (k : ℕ) → is_run P (disagreement P weights) k ≡ true → terminal P (at P σ k) ≡ true
        rests zero e = absurd (not_both {b = false} e refl)
        rests (suc zero) e = f
        rests (suc (suc k)) e = g

        shows : (k : ℕ) → is_run P (disagreement P weights) k ≡ true → (s : ℕ) × (0 < count (at P σ k) s) × (P.output s ≡ eqb k 2)
        shows zero e = absurd (not_both {b = false} e refl)
        shows (suc zero) e = (s, i, u)
        shows (suc (suc n)) e = (t, k, v ∙ sym (second n e))

        assumed : Assumed P (disagreement P weights) σ
        assumed = record { rests = rests; shows = shows }

    -- Two occupied states of two terminal configurations, or of one, have one output.
    agree : (x y : Reach P c) → terminal P x.end ≡ true → terminal P y.end ≡ true
        → (s t : ℕ) → 0 < count x.end s → 0 < count y.end t → P.output t ≡ P.output s
    agree x y f g s t i k =
        by_test (P.output s)
        (λ u. by_test (P.output t) (λ v. v ∙ sym u) (λ v. absurd (opposed y x g f t s k i v u)))
        (λ u. by_test (P.output t) (λ v. absurd (opposed x y f g s t i k u v)) (λ v. v ∙ sym u))

    -- Where one terminal configuration is reached, there is one output that all of them show.
    pub consensus : (x : Reach P c) → terminal P x.end ≡ true → (v : Bool) × ((y : Reach P c) → terminal P y.end ≡ true → Shows P v y.end)
    unfolding size
    consensus x f =
        let o = weigh-some (λ _. 1) x.end (omega (arith, even_kept P good start.sized x.potential 1, start.enough)) in
        (P.output o.0, λ y g t k. agree x y f g o.0 t (omega (arith, o.1)) k)
