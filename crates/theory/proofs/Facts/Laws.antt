-- What facts say of runs from one start, and how they grow. Assumes nothing.
use Rattle.std.specs.Prelude.{◌≡◌, refl, Bool, true, false, ◌&&◌, List, ℕ, ◌≤◌, ◌<◌, length}
use Rattle.std.proofs.Common.{sym, ◌∙◌, arith}
use Rattle.std.proofs.Math.Path.{subst}
use Rattle.std.proofs.Math.Logic.{⊎_elim}
use Rattle.std.proofs.Math.Dec.{ltb, eqb}
use borrow.Author.Tests.{ltb-true, eqb-true, not-true}
use Rattle.theory.proofs.Bool.Laws.{not_both, and_elim, or_elim}
use Rattle.theory.specs.Protocol.{Protocol, Start, count}
use Rattle.theory.proofs.Protocol.Laws.{start_fixed}
use Rattle.theory.specs.Facts.{Facts, extend, with_absent, with_present, with_at_most_one, with_unused, fresh}
use Rattle.theory.specs.Potential.Runs.{Reach}

module _ (P : Protocol) where
  -- Runs from one start. Run 0 ends there, so party 0 is the start.
  pub record Runs : Type 0 where
    pub start : List ℕ
    pub run : ℕ → Reach P start
    pub starts : Start P start
    pub still : (run 0).end ≡ start

  -- The configuration at a party.
  abbrev pub at : Runs → ℕ → List ℕ
  at σ k = (σ.run k).end

  pub length_at : (σ : Runs) (k : ℕ) → length (at σ k) ≡ P.states
  length_at σ k = (σ.run k).potential.sized

  -- Every fact is true of the runs.
  pub record Holds (F : Facts) (σ : Runs) : Type 0 where
    pub absent : (k s : ℕ) → F.absent k s ≡ true → count (at σ k) s ≡ 0
    pub present : (k s : ℕ) → F.present k s ≡ true → 0 < count (at σ k) s
    pub at_most_one : (k s : ℕ) → F.at_most_one k s ≡ true → count (at σ k) s ≤ 1
    pub unused : (k r : ℕ) → F.unused k r ≡ true → (σ.run k).through r ≡ 0

  -- The fresh facts hold of every start.
  pub fresh_holds : (σ : Runs) → Holds (fresh P) σ
  unfolding fresh
  fresh_holds σ =
      record {
        absent = λ k s e.
            let t = and_elim _ _ e in
            let u = and_elim _ _ t.1 in
            let v = and_elim _ _ u.1 in
            rw (eqb-true k 0 t.0, σ.still) ((σ.starts.rule s (ltb-true _ _ u.0)).others (not-true _ v.1) ∙ eqb-true _ _ v.0);
        present = λ k s e.
            let t = and_elim (ltb 0 (P.fixed s)) (eqb k 0 && ltb s P.states) e in
            let u = and_elim (eqb k 0) (ltb s P.states) t.1 in
            rw (eqb-true k 0 u.0, σ.still) (omega (arith, ltb-true 0 (P.fixed s) t.0, start_fixed P σ.start σ.starts s (ltb-true _ _ u.1)));
        at_most_one = λ k s e. absurd (not_both {b = false} e refl);
        unused = λ k r e. absurd (not_both {b = false} e refl);
      }

  -- What was shown of the facts f and of the set A at party k is shown of both.
  extend_holds : (Q : ℕ → ℕ → Type 0) (f : ℕ → ℕ → Bool) (k : ℕ) (A : ℕ → Bool) → ((j s : ℕ) → f j s ≡ true → Q j s) → ((s : ℕ) → A s ≡ true → Q k s)
      → (j s : ℕ) → extend f k A j s ≡ true → Q j s
  unfolding extend
  extend_holds Q f k A old new j s h =
      ⊎_elim
      (λ (e : eqb j k && A s ≡ true). let t = and_elim _ _ e in subst (λ (i : ℕ). Q i s) (sym (eqb-true _ _ t.0)) (new s t.1))
      (λ (e : f j s ≡ true). old j s e)
      (or_elim _ _ h)

  module _ (σ : Runs) (F : Facts) (h : Holds F σ) (k : ℕ) (A : ℕ → Bool) where
    pub holds_absent : ((s : ℕ) → A s ≡ true → count (at σ k) s ≡ 0) → Holds (with_absent F k A) σ
    unfolding with_absent
    holds_absent n =
        record {
          absent = extend_holds (λ j s. count (at σ j) s ≡ 0) F.absent k A
              h.absent n;
          present = h.present;
          at_most_one = h.at_most_one;
          unused = h.unused;
        }

    pub holds_present : ((s : ℕ) → A s ≡ true → 0 < count (at σ k) s) → Holds (with_present F k A) σ
    unfolding with_present
    holds_present n =
        record {
          absent = h.absent;
          present = extend_holds (λ j s. 0 < count (at σ j) s) F.present k A
              h.present n;
          at_most_one = h.at_most_one;
          unused = h.unused;
        }

    pub holds_at_most_one : ((s : ℕ) → A s ≡ true → count (at σ k) s ≤ 1) → Holds (with_at_most_one F k A) σ
    unfolding with_at_most_one
    holds_at_most_one n =
        record {
          absent = h.absent;
          present = h.present;
          at_most_one = extend_holds (λ j s. count (at σ j) s ≤ 1) F.at_most_one k A
              h.at_most_one n;
          unused = h.unused;
        }

    pub holds_unused : ((r : ℕ) → A r ≡ true → (σ.run k).through r ≡ 0) → Holds (with_unused F k A) σ
    unfolding with_unused
    holds_unused n =
        record {
          absent = h.absent;
          present = h.present;
          at_most_one = h.at_most_one;
          unused = extend_holds (λ j r. (σ.run j).through r ≡ 0)
              F.unused k A h.unused n;
        }
