-- A search that finds something, and just when test 11 passes. Assumes nothing.
use Rattle.std.specs.Prelude.{◌≡◌, Bool, true, false, List, ℕ, ◌≤◌, ◌<◌, ltb, Option}
use Rattle.std.specs.Option.{is_some}
use Rattle.std.proofs.Common.{sym, ◌∙◌}
use borrow.Author.Tests.{ltb-true, ltb-false}
use Rattle.theory.specs.Below.{any_below, first_below}
use Rattle.theory.specs.Below.Ends.{first_where}
use Rattle.theory.proofs.Bool.Laws.{by_test}
use Rattle.theory.proofs.Below.Laws.{any_fails, any_elim}
use Rattle.theory.proofs.Below.Scan.{first_any}
use Rattle.format.specs.Format.{end_weight}
use Rattle.format.specs.declared.Sizes.{Sizes}
use Rattle.leaf.specs.Leaf.{bad_leaf}

-- The search finds a number just where some number passes.
pub found_some : (n : ℕ) (f : ℕ → Bool) (o : Option ℕ) → o ≡ first_where n f → is_some o ≡ any_below n f
unfolding first_where
found_some n f o e = by_test (ltb (first_below n f) n) (λ t. rw (e, t) (sym t ∙ first_any n f)) (λ t. rw (e, t) (sym t ∙ first_any n f))

module _ (z : Sizes) (leaves : List ℕ) (l : ℕ) where
  -- Test 11 passes just where every weight is within its limits.
  pub leaf_good : bad_leaf z leaves l ≡ false → (e s : ℕ) → e < 2 → s < z.states → end_weight z leaves l e s ≤ 20000
  unfolding bad_leaf
  leaf_good h e s m n = ltb-false 20000 (end_weight z leaves l e s) (any_fails z.states _ (any_fails 2 _ h e m) s n)

  pub leaf-bad : bad_leaf z leaves l ≡ true → (e : ℕ) × (s : ℕ) × (e < 2) × (s < z.states) × (20000 < end_weight z leaves l e s)
  unfolding bad_leaf
  leaf-bad h =
      let a = any_elim 2 _ h in
      let b = any_elim z.states _ a.2 in
      (a.0, b.0, a.1, b.1, ltb-true 20000 (end_weight z leaves l a.0 b.0) b.2)
