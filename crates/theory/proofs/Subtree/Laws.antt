-- The walk accepts just the trees that stand, and refuses just as a tree fails. Assumes nothing.
use Rattle.std.specs.Prelude.{◌≡◌, true, false, ◌↔◌, ◌⊎◌, eqb}
use Rattle.std.proofs.Math.Path.{refl, sym, ap, subst}
use Rattle.std.proofs.Common.{◌∙◌, arith}
use mathlib.Core.List.{List, [], ◌∷◌}
use Rattle.std.proofs.Math.Logic.{inl, inr, ⊎_elim, by_cases}
use Prim.Native.Nat.{ℕ, zero, suc, ◌≤◌, ◌<◌}
use Rattle.std.proofs.Math.Decide.{dec_lt}
use borrow.Author.Tests.{lt-ltb, le-ltb, eqb-true, eqb-false, eq-eqb, ne_eqb}
use Rattle.theory.proofs.Bool.Laws.{by_test, not_both}
use Rattle.theory.specs.Protocol.{Protocol}
use Rattle.theory.specs.Facts.{Facts, fresh}
use Rattle.theory.specs.Tree.{Tree, Assumption, Node, leaf, output_absent, contradiction, disabled, case_split, trap, siphon, remainder, bad}
use Rattle.theory.specs.Tree.{Walked, next, refused, refusal_number, forest, children, ground, node, tree_at, tree_answer}
use Rattle.theory.proofs.Tree.Laws.{by_answer, refused_not_next}
use Rattle.theory.specs.Subtree.{InOrder, InOne, Stands, Subtree, Wrong, Fails, TreeStands, TreeFails}

pub next_same : {i j : ℕ} → next i ≡ next j → i ≡ j
next_same {i} {j} e = cc

pub refused_same : {n k m j : ℕ} → refused n k ≡ refused m j → (n ≡ m) × (k ≡ j)
refused_same {n} {k} {m} {j} e = (cc, cc)

-- ---- Children

module _ (t : Facts → ℕ → Walked) (R : Facts → ℕ → ℕ → Type 0) (same : (F : Facts) (i j : ℕ) → (t F i ≡ next j) ↔ R F i j) where
  forest_next : (Fs : List Facts) (i j : ℕ) → (forest t Fs i ≡ next j) ↔ InOrder R Fs i j
  unfolding forest
  forest_next [] i j = (next_same, ap next)
  forest_next (F ∷ Fs) i j = (
    λ e. by_answer (t F i)
        (λ k q. (k, (same F i k).0 q, (forest_next Fs k j).0 (rw (q, forest) at e)))
        (λ n k q. absurd (refused_not_next (rw (q, forest) at e))),
    λ s. rw ((same F i s.0).1 s.1, forest) ((forest_next Fs s.0 j).1 s.2),
  )

  forest_refused : (n k : ℕ) (Fs : List Facts) (i : ℕ) → (forest t Fs i ≡ refused n k) ↔ InOne R (λ F j. t F j ≡ refused n k) Fs i
  unfolding forest
  forest_refused n k [] i = (λ e. refused_not_next (sym e), λ o. absurd o)
  forest_refused n k (F ∷ Fs) i = (
    λ e. by_answer (t F i)
        (λ j q. inr (j, (same F i j).0 q, (forest_refused n k Fs j).0 (rw (q, forest) at e)))
        (λ m j q. inl (q ∙ (rw (q, forest) at e))),
    ⊎_elim
        (λ q. rw (q, forest))
        (λ s. rw ((same F i s.0).1 s.1, forest) ((forest_refused n k Fs s.0).1 s.2)),
  )

-- The same for relations that agree.
one_map : (R : Facts → ℕ → ℕ → Type 0) (Q W : Facts → ℕ → Type 0) (N : ℕ) → ((F : Facts) (i j : ℕ) → i ≤ N → R F i j → j ≤ N)
    → ((F : Facts) (i : ℕ) → i ≤ N → Q F i → W F i) → (Fs : List Facts) (i : ℕ) → i ≤ N → InOne R Q Fs i → InOne R W Fs i
one_map R Q W N within f [] i l o = o
one_map R Q W N within f (F ∷ Fs) i l o =
    ⊎_elim (λ v. inl (f F i l v)) (λ s. inr (s.0, s.1, one_map R Q W N within f Fs s.0 (within F i s.0 l s.1) s.2)) o

order_within : (R : Facts → ℕ → ℕ → Type 0) (N : ℕ) → ((F : Facts) (i j : ℕ) → i ≤ N → R F i j → j ≤ N)
    → (Fs : List Facts) (i j : ℕ) → i ≤ N → InOrder R Fs i j → j ≤ N
order_within R N within [] i j l e = omega arith
order_within R N within (F ∷ Fs) i j l s = order_within R N within Fs s.0 j (within F i s.0 l s.1) s.2

-- A node is bad or not; its refusal's number is 12 or 13 by that.
pub by_fields : {X : Type 0} (n : Node) → (n ≡ bad → refusal_number n ≡ 12 → X) → ((n ≡ bad → ⊥) → refusal_number n ≡ 13 → X) → X
unfolding refusal_number
by_fields (leaf l) f g = g (λ e. let z : ◌≡◌ {A = ℕ} 0 1 = cc in omega arith) refl
by_fields (output_absent k) f g = g (λ e. let z : ◌≡◌ {A = ℕ} 0 1 = cc in omega arith) refl
by_fields (contradiction k s) f g = g (λ e. let z : ◌≡◌ {A = ℕ} 0 1 = cc in omega arith) refl
by_fields (disabled k r) f g = g (λ e. let z : ◌≡◌ {A = ℕ} 0 1 = cc in omega arith) refl
by_fields (case_split k s) f g = g (λ e. let z : ◌≡◌ {A = ℕ} 0 1 = cc in omega arith) refl
by_fields (trap k w) f g = g (λ e. let z : ◌≡◌ {A = ℕ} 0 1 = cc in omega arith) refl
by_fields (siphon k w) f g = g (λ e. let z : ◌≡◌ {A = ℕ} 0 1 = cc in omega arith) refl
by_fields (remainder l m) f g = g (λ e. let z : ◌≡◌ {A = ℕ} 0 1 = cc in omega arith) refl
by_fields bad f g = f refl refl

module _ (P : Protocol) (H : Assumption) (T : Tree) where
  bad_fails : (F : Facts) (i : ℕ) → node P H T i ≡ bad → ground P H F (node P H T i) ≡ false
  unfolding ground
  bad_fails F i e = ap (ground P H F) e

  stands : (F : Facts) (i : ℕ) → i < T.nodes → ground P H F (node P H T i) ≡ true → Stands P H T F i
  stands F i l g = record { inside = l; fields = λ e. not_both g (bad_fails F i e); grounded = g }

  -- ---- The walk at node i, by the number of nodes and by the ground

  module _ (d : ℕ) (F : Facts) (i : ℕ) where
    past : T.nodes ≤ i → tree_at P H T (suc d) F i ≡ refused 12 T.nodes
    unfolding tree_at
    past l = rw (le-ltb i T.nodes l, tree_at)

    failed : i < T.nodes → ground P H F (node P H T i) ≡ false → tree_at P H T (suc d) F i ≡ refused (refusal_number (node P H T i)) i
    unfolding tree_at
    failed l g = rw (lt-ltb i T.nodes l, g, tree_at)

    gone_on : i < T.nodes → ground P H F (node P H T i) ≡ true → tree_at P H T (suc d) F i ≡ forest (tree_at P H T d) (children P F (node P H T i)) (suc i)
    unfolding tree_at
    gone_on l g = rw (lt-ltb i T.nodes l, g, tree_at)

  -- ---- Subtrees

  walk_next : (d : ℕ) (F : Facts) (i j : ℕ) → (tree_at P H T d F i ≡ next j) ↔ Subtree P H T d F i j
  unfolding tree_at
  walk_next zero F i j = (refused_not_next, λ s. absurd s)
  walk_next (suc d) F i j =
      let below = forest_next (tree_at P H T d) (Subtree P H T d) (walk_next d) (children P F (node P H T i)) (suc i) j in (
        λ e.
            by_cases (dec_lt i T.nodes)
            (λ l.
            by_test (ground P H F (node P H T i))
            (λ g. (stands F i l g, below.0 (sym (gone_on d F i l g) ∙ e)))
            (λ g. absurd (refused_not_next (sym (failed d F i l g) ∙ e))))
            (λ l. absurd (refused_not_next (sym (past d F i (omega arith)) ∙ e))),
        λ s. gone_on d F i s.0.inside s.0.grounded ∙ below.1 s.1,
      )

  subtree_within : (d : ℕ) (F : Facts) (i j : ℕ) → i ≤ T.nodes → Subtree P H T d F i j → j ≤ T.nodes
  subtree_within zero F i j l s = absurd s
  subtree_within (suc d) F i j l s =
      order_within (Subtree P H T d) T.nodes (subtree_within d) (children P F (node P H T i)) (suc i) j (omega (arith, s.0.inside)) s.1

  -- ---- Failures

  here : (d : ℕ) (F : Facts) (i n k : ℕ) → i ≤ T.nodes → tree_at P H T (suc d) F i ≡ refused n k → (i < T.nodes → ground P H F (node P H T i) ≡ false)
      → (k ≡ i) × Wrong P H T F i n
  here d F i n k l e off =
      by_cases (dec_lt i T.nodes)
      (λ m.
      let s = refused_same (sym (failed d F i m (off m)) ∙ e) in (
        sym s.1,
        by_fields (node P H T i)
            (λ b q. inr (inl (m, b, sym s.0 ∙ q)))
            (λ b q. inr (inr (m, b, off m, sym s.0 ∙ q))),
      ))
      (λ m. let s = refused_same (sym (past d F i (omega arith)) ∙ e) in (omega (arith, s.1), inl (omega arith, sym s.0)))

  wrong : (d : ℕ) (F : Facts) (i n : ℕ) → Wrong P H T F i n → tree_at P H T (suc d) F i ≡ refused n i
  wrong d F i n =
      ⊎_elim
      (λ w. past d F i (omega (arith, w.0)) ∙ ap (λ m. refused 12 m) (sym w.0) ∙ ap (λ m. refused m i) (sym w.1))
      (⊎_elim
      (λ w. failed d F i w.0 (bad_fails F i w.1) ∙ ap (λ m. refused m i) (by_fields (node P H T i) (λ b q. q) (λ b q. absurd (b w.1)) ∙ sym w.2))
      (λ w. failed d F i w.0 w.2 ∙ ap (λ m. refused m i) (by_fields (node P H T i) (λ b q. absurd (w.1 b)) (λ b q. q) ∙ sym w.3)))

  walk_refused : (n k d : ℕ) (F : Facts) (i : ℕ) → i ≤ T.nodes → (tree_at P H T d F i ≡ refused n k) ↔ Fails P H T d F i n k
  unfolding tree_at
  walk_refused n k zero F i l = (
    λ e. let s = refused_same e in (sym s.1, sym s.0),
    λ s. ap (λ m. refused 12 m) (sym s.0) ∙ ap (λ m. refused m k) (sym s.1),
  )
  walk_refused n k (suc d) F i l =
      let Fs = children P F (node P H T i) in
      let below = forest_refused (tree_at P H T d) (Subtree P H T d) (walk_next d) n k Fs (suc i) in
      let map = one_map (Subtree P H T d) in (
        λ e.
            by_cases (dec_lt i T.nodes)
            (λ m.
            by_test (ground P H F (node P H T i))
            (λ g.
            inr (
              stands F i m g,
              map (λ G j. tree_at P H T d G j ≡ refused n k) (λ G j. Fails P H T d G j n k) T.nodes (subtree_within d)
                  (λ G j h. (walk_refused n k d G j h).0) Fs (suc i) (omega arith) (below.0 (sym (gone_on d F i m g) ∙ e)),
            ))
            (λ g. inl (here d F i n k l e (λ _. g))))
            (λ m. inl (here d F i n k l e (λ h. absurd (m h)))),
        ⊎_elim
            (λ w. subst (λ j. tree_at P H T (suc d) F i ≡ refused n j) (sym w.0) (wrong d F i n w.1))
            (λ s.
            gone_on d F i s.0.inside s.0.grounded
            ∙ below.1 (map (λ G j. Fails P H T d G j n k) (λ G j. tree_at P H T d G j ≡ refused n k) T.nodes (subtree_within d)
            (λ G j h. (walk_refused n k d G j h).1) Fs (suc i) (omega (arith, s.0.inside)) s.1)),
      )

  -- Failures are at nodes that there are, or behind the last.
  one_within : (d n k : ℕ) → ((F : Facts) (i : ℕ) → i ≤ T.nodes → Fails P H T d F i n k → k ≤ T.nodes)
      → (Fs : List Facts) (i : ℕ) → i ≤ T.nodes → InOne (Subtree P H T d) (λ G j. Fails P H T d G j n k) Fs i → k ≤ T.nodes
  one_within d n k below [] i l o = absurd o
  one_within d n k below (F ∷ Fs) i l o =
      ⊎_elim (below F i l) (λ s. one_within d n k below Fs s.0 (subtree_within d F i s.0 l s.1) s.2) o

  fails_within : (n k d : ℕ) (F : Facts) (i : ℕ) → i ≤ T.nodes → Fails P H T d F i n k → k ≤ T.nodes
  fails_within n k zero F i l s = omega (arith, s.0)
  fails_within n k (suc d) F i l f =
      ⊎_elim
      (λ s. omega (arith, s.0))
      (λ s. one_within d n k (fails_within n k d) (children P F (node P H T i)) (suc i) (omega (arith, s.0.inside)) s.1)
      f

  pub place-within : (n k : ℕ) → TreeFails P H T n k → k ≤ T.nodes
  place-within n k = ⊎_elim (fails_within n k 40 (fresh P) 0 (omega arith)) (λ s. omega (arith, s.1))

  -- A failure is by 12 or by 13.
  one_number : (d n k : ℕ) → ((F : Facts) (i : ℕ) → Fails P H T d F i n k → (n ≡ 12) ⊎ (n ≡ 13))
      → (Fs : List Facts) (i : ℕ) → InOne (Subtree P H T d) (λ G j. Fails P H T d G j n k) Fs i → (n ≡ 12) ⊎ (n ≡ 13)
  one_number d n k below [] i o = absurd o
  one_number d n k below (F ∷ Fs) i o = ⊎_elim (below F i) (λ s. one_number d n k below Fs s.0 s.2) o

  fails_number : (n k d : ℕ) (F : Facts) (i : ℕ) → Fails P H T d F i n k → (n ≡ 12) ⊎ (n ≡ 13)
  fails_number n k zero F i s = inl s.1
  fails_number n k (suc d) F i f =
      ⊎_elim
      (λ s. ⊎_elim (λ w. inl w.1) (⊎_elim (λ w. inl w.2) (λ w. inr w.3)) s.1)
      (λ s. one_number d n k (fails_number n k d) (children P F (node P H T i)) (suc i) s.1)
      f

  pub number_12_13 : (n k : ℕ) → TreeFails P H T n k → (n ≡ 12) ⊎ (n ≡ 13)
  number_12_13 n k = ⊎_elim (fails_number n k 40 (fresh P) 0) (λ s. inl s.2)

  -- ---- The whole tree

  -- An accepted tree has no nodes left over.
  pub tree_next : (j : ℕ) → tree_answer P H T ≡ next j → j ≡ T.nodes
  unfolding tree_answer
  tree_next j e =
      by_answer (tree_at P H T 40 (fresh P) 0)
      (λ i q.
      by_test (eqb i T.nodes)
      (λ t. sym (next_same (rw (q, t, tree_answer) at e)) ∙ eqb-true _ _ t)
      (λ t. absurd (refused_not_next (rw (q, t, tree_answer) at e))))
      (λ n i q. absurd (refused_not_next (rw (q, tree_answer) at e)))

  pub tree_stands : (tree_answer P H T ≡ next T.nodes) ↔ TreeStands P H T
  unfolding tree_answer
  tree_stands = (
    λ e.
        by_answer (tree_at P H T 40 (fresh P) 0)
        (λ j q.
        by_test (eqb j T.nodes)
        (λ t. subst (Subtree P H T 40 (fresh P) 0) (eqb-true _ _ t) ((walk_next 40 (fresh P) 0 j).0 q))
        (λ t. absurd (refused_not_next (rw (q, t, tree_answer) at e))))
        (λ n j q. absurd (refused_not_next (rw (q, tree_answer) at e))),
    λ s. rw ((walk_next 40 (fresh P) 0 T.nodes).1 s, eq-eqb T.nodes T.nodes refl, tree_answer),
  )

  pub tree_fails : (n k : ℕ) → (tree_answer P H T ≡ refused n k) ↔ TreeFails P H T n k
  unfolding tree_answer
  tree_fails n k = (
    λ e.
        by_answer (tree_at P H T 40 (fresh P) 0)
        (λ j q.
        by_test (eqb j T.nodes)
        (λ t. absurd (refused_not_next (sym (rw (q, t, tree_answer) at e))))
        (λ t.
        let s = refused_same (rw (q, t, tree_answer) at e) in
        let sub = (walk_next 40 (fresh P) 0 j).0 q in
        let within = subtree_within 40 (fresh P) 0 j (omega arith) sub in
        let other = eqb-false j T.nodes t in
        let l : j < T.nodes = by_cases (dec_lt j T.nodes) (λ l. l) (λ g. absurd (other (omega arith))) in
        inr (subst (Subtree P H T 40 (fresh P) 0) s.1 sub, omega (arith, s.1), sym s.0)))
        (λ m j q. inl ((walk_refused n k 40 (fresh P) 0 (omega arith)).0 (q ∙ (rw (q, tree_answer) at e)))),
    ⊎_elim
        (λ f. rw ((walk_refused n k 40 (fresh P) 0 (omega arith)).1 f, tree_answer))
        (λ s.
        rw ((walk_next 40 (fresh P) 0 k).1 s.0, ne_eqb k T.nodes (λ e. omega (arith, s.1)), tree_answer)
        (ap (λ m. refused m k) (sym s.2))),
  )
