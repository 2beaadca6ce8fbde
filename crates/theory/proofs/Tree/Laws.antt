-- The tree of arguments is sound: where the walk accepts, the assumption is false. One lemma for each kind of node.
-- Assumes nothing.
use Rattle.std.specs.Prelude.{◌≡◌, Bool, ◌&&◌, ◌⊎◌, get_or, ltb, eqb}
use Rattle.std.proofs.Math.Path.{refl}
use Rattle.std.proofs.Common.{sym, ap, ◌∙◌, eq-zero-or-pos, arith}
use Rattle.std.proofs.Math.Bool.{true, false}
use Rattle.std.specs.Bool.{beq}
use mathlib.Core.List.{List, [], ◌∷◌}
use Rattle.std.proofs.Math.Logic.{inl, inr, ⊎_elim}
use Prim.Native.Nat.{ℕ, zero, suc, ◌<◌}
use borrow.Author.Tests.{ltb-true, eqb-true}
use Rattle.theory.specs.Bool.{member}
use Rattle.theory.proofs.Bool.Laws.{by_test, not_both, and_elim, imp_elim, eq_beq}
use Rattle.theory.proofs.Below.Laws.{all_elim}
use Rattle.theory.proofs.Weigh.Laws.{set_empty, set_none, occupied_lt}
use Rattle.theory.specs.Protocol.{Protocol, WellFormed, count, terminal, enabled}
use Rattle.theory.proofs.Protocol.Laws.{disabled_same, disabled_other, terminal_off}
use Rattle.theory.specs.Facts.{Facts, with_absent, with_present, with_unused, fresh}
use Rattle.theory.proofs.Facts.Laws.{Runs, at, length_at, Holds, fresh_holds, holds_absent, holds_present, holds_at_most_one, holds_unused}
use Rattle.theory.specs.Tree.{Tree, Assumption, Node, leaf, output_absent, contradiction, disabled, case_split, trap, siphon, remainder, bad, Walked, next}
use Rattle.theory.specs.Tree.{refused, checked, forest, touches, is_trap, is_siphon, within, children, is_run, ground, by_kind, node, tree_at}
use Rattle.theory.specs.Tree.{tree_answer}
use Rattle.theory.specs.Potential.{count_in}
use Rattle.theory.proofs.Potential.Laws.{trap_empty, siphon_empty}

pub by_answer : {X : Type 0} (x : Walked) → ((j : ℕ) → x ≡ next j → X) → ((n j : ℕ) → x ≡ refused n j → X) → X
by_answer (next j) f g = f j refl
by_answer (refused n j) f g = g n j refl

pub refused_not_next : {n i j : ℕ} → refused n i ≡ next j → ⊥
refused_not_next {n} {i} {j} e = let z : ◌≡◌ {A = ℕ} 0 1 = cc in omega arith

module _ (P : Protocol) where
  -- The assumption is true of these runs.
  pub record Assumed (H : Assumption) (σ : Runs P) : Type 0 where
    pub rests : (k : ℕ) → is_run P H k ≡ true → terminal P (at P σ k) ≡ true
    pub shows : (k : ℕ) → is_run P H k ≡ true → (s : ℕ) × (0 < count (at P σ k) s) × (P.output s ≡ H.assumed k)

  -- The facts on which a leaf closes do not hold of these runs.
  pub record LeavesRefute (H : Assumption) (σ : Runs P) : Type 0 where
    pub by_sum : (F : Facts) (l : ℕ) → H.closes F l ≡ true → Holds P F σ → ⊥
    pub by_remainder : (m : ℕ) (F : Facts) (l : ℕ) → H.closes_modulo m F l ≡ true → Holds P F σ → ⊥

  -- The facts of one member of the list hold.
  abbrev OneHolds : Runs P → List Facts → Type 0
  OneHolds σ [] = ⊥
  OneHolds σ (F ∷ Fs) = Holds P F σ ⊎ OneHolds σ Fs

  module _ (H : Assumption) where
    -- What the fields of a node that is not bad promise of its party and argument, as far as its lemma needs it.
    abbrev Sane : Node → Type 0
    Sane (leaf l) = Unit {0}
    Sane (output_absent k) = is_run P H k ≡ true
    Sane (contradiction k s) = Unit {0}
    Sane (disabled k r) = (is_run P H k ≡ true) × (r < P.rules)
    Sane (case_split k s) = Unit {0}
    Sane (trap k w) = Unit {0}
    Sane (siphon k w) = Unit {0}
    Sane (remainder l m) = Unit {0}
    Sane bad = Unit {0}

    infixr 25 ◌also◌
    data AllSane : List Node → Type 0 where
      end : AllSane []
      ◌also◌ : {n : Node} {ns : List Node} → Sane n → AllSane ns → AllSane (n ∷ ns)

    checked_sane : (b : Bool) (n : Node) → (b ≡ true → Sane n) → Sane (checked b n)
    unfolding checked
    checked_sane true n f = f refl
    checked_sane false n f = tt

    get_or_sane : (ns : List Node) (i : ℕ) → AllSane ns → Sane (get_or ns i bad)
    get_or_sane ns i end = tt
    get_or_sane ns zero (n also rest) = n
    get_or_sane ns (suc i) (n also rest) = get_or_sane _ i rest

    by_kind_sane : (T : Tree) (k a w : ℕ) → AllSane (by_kind P H T k a w)
    unfolding by_kind
    by_kind_sane T k a w =
        checked_sane _ (leaf a) (λ _. tt)
        also checked_sane _ (output_absent k) (λ e. (and_elim _ _ (and_elim _ _ e).0).0)
        also checked_sane _ (contradiction k a) (λ _. tt)
        also checked_sane _ (disabled k a) (λ e. let t = and_elim _ _ (and_elim _ _ e).0 in (t.0, ltb-true _ _ t.1))
        also checked_sane _ (case_split k a) (λ _. tt)
        also checked_sane _ (trap k w) (λ _. tt)
        also checked_sane _ (siphon k w) (λ _. tt)
        also checked_sane _ (remainder a w) (λ _. tt)
        also end

    node_sane : (T : Tree) (i : ℕ) → Sane (node P H T i)
    unfolding node
    node_sane T i = get_or_sane (by_kind P H T (T.party i) (T.argument i) (T.set i)) (T.kind i) (by_kind_sane T (T.party i) (T.argument i) (T.set i))

  module _ (good : WellFormed P) (σ : Runs P) (F : Facts) (h : Holds P F σ) where
    -- A set whose states are all absent holds no agent.
    within_empty : (A : ℕ → Bool) (k : ℕ) → within P A (F.absent k) ≡ true → count_in A (at P σ k) ≡ 0
    unfolding within
    within_empty A k e =
        set_empty A (at P σ k)
        (λ s l a. h.absent k s (imp_elim _ _ (all_elim _ _ e s (omega (arith, length_at P σ k))) a))

    contradiction_holds : (k s : ℕ) → F.present k s && F.absent k s ≡ true → ⊥
    contradiction_holds k s e = let t = and_elim (F.present k s) (F.absent k s) e in omega (arith, h.present k s t.0, h.absent k s t.1)

    one_absent : (k s : ℕ) → count (at P σ k) s ≡ 0 → Holds P (with_absent F k (eqb s)) σ
    one_absent k s z = holds_absent P σ F h k (eqb s) (λ t e. ap (count (at P σ k)) (sym (eqb-true _ _ e)) ∙ z)

    case_split_holds : (k s : ℕ) → OneHolds σ (with_absent F k (eqb s) ∷ with_present F k (eqb s) ∷ [])
    case_split_holds k s =
        ⊎_elim
        (λ (z : count (at P σ k) s ≡ 0). inl (one_absent k s z))
        (λ (z : 0 < count (at P σ k) s). inr (inl (holds_present P σ F h k (eqb s) (λ t e. rw (eqb-true s t e) at z))))
        (eq-zero-or-pos (count (at P σ k) s))

    trap_holds : (k : ℕ) (A : ℕ → Bool) → within P A (F.absent k) && is_trap P (F.unused k) A ≡ true
        → Holds P (with_unused (with_absent F 0 A) k (touches P A)) σ
    trap_holds k A e =
        let t = and_elim _ _ e in
        let c = trap_empty P good σ.starts.sized (σ.run k).potential A (F.unused k) (h.unused k) t.1 (within_empty A k t.0) in
        holds_unused P σ (with_absent F 0 A) (holds_absent P σ F h 0 A (set_none A (at P σ 0) (ap (count_in A) σ.still ∙ c.0))) k (touches P A) c.1

    siphon_holds : (k : ℕ) (A : ℕ → Bool) → within P A (F.absent 0) && is_siphon P (F.unused k) A ≡ true
        → Holds P (with_unused (with_absent F k A) k (touches P A)) σ
    siphon_holds k A e =
        let t = and_elim _ _ e in
        let c = siphon_empty P good σ.starts.sized (σ.run k).potential A (F.unused k) (h.unused k) t.1
        (sym (ap (count_in A) σ.still) ∙ within_empty A 0 t.0) in
        holds_unused P σ (with_absent F k A) (holds_absent P σ F h k A (set_none A (at P σ k) c.0)) k (touches P A) c.1

    module _ (H : Assumption) (a : Assumed H σ) where
      output_absent_holds : (k : ℕ) → is_run P H k ≡ true → within P (λ s. beq (P.output s) (H.assumed k)) (F.absent k) ≡ true → ⊥
      unfolding within
      output_absent_holds k r e =
          let w = a.shows k r in
          let s = w.0 in
          let none : count (at P σ k) s ≡ 0 =
          h.absent k s
          (imp_elim _ _
          (all_elim _ _ e s (omega (arith, length_at P σ k, occupied_lt (at P σ k) s w.1)))
          (eq_beq (P.output s) (H.assumed k) w.2)) in
          omega (arith, w.1)

      disabled_holds : (k r : ℕ) → is_run P H k ≡ true → r < P.rules → OneHolds σ (children P F (disabled k r))
      unfolding children
      disabled_holds k r i l =
          let off : enabled P (at P σ k) r ≡ false = terminal_off P (at P σ k) (a.rests k i) r l in
          by_test (eqb (P.p r) (P.q r))
          (λ e. rw (e, children) (inl (holds_at_most_one P σ F h k (eqb (P.p r)) (λ t o. rw (eqb-true (P.p r) t o) at (disabled_same P (at P σ k) r e off)))))
          (λ e. rw (e, children)
          (⊎_elim
          (λ z. inl (one_absent k (P.p r) z))
          (λ z. inr (inl (one_absent k (P.q r) z)))
          (disabled_other P (at P σ k) r e off)))

      -- A node whose ground holds has a child whose facts hold.
      node_holds : LeavesRefute H σ → (n : Node) → Sane H n → ground P H F n ≡ true → OneHolds σ (children P F n)
      unfolding ground children
      node_holds closed (leaf l) s e = closed.by_sum F l e h
      node_holds closed (output_absent k) s e = output_absent_holds k s e
      node_holds closed (contradiction k t) s e = contradiction_holds k t e
      node_holds closed (disabled k r) s e = disabled_holds k r s.0 s.1
      node_holds closed (case_split k t) s e = case_split_holds k t
      node_holds closed (trap k w) s e = inl (trap_holds k (member w) e)
      node_holds closed (siphon k w) s e = inl (siphon_holds k (member w) e)
      node_holds closed (remainder l m) s e = closed.by_remainder m F l e h
      node_holds closed bad s e = not_both {b = false} e refl

  module _ (good : WellFormed P) (σ : Runs P) (H : Assumption) (a : Assumed H σ) where
    forest_refutes : (t : Facts → ℕ → Walked) → ((F : Facts) (i j : ℕ) → t F i ≡ next j → Holds P F σ → ⊥)
        → (Fs : List Facts) (i j : ℕ) → forest t Fs i ≡ next j → OneHolds σ Fs → ⊥
    unfolding forest
    forest_refutes t ih [] i j e o = o
    forest_refutes t ih (F ∷ Fs) i j e o =
        by_answer (t F i)
        (λ m q. ⊎_elim (λ h. ih F i m q h) (forest_refutes t ih Fs m j (rw (q, forest) at e)) o)
        (λ n m q. refused_not_next (rw (q, forest) at e))

    module _ (T : Tree) (closed : LeavesRefute H σ) where
      -- Where the walk accepts a subtree, its facts do not hold.
      refutes : (d : ℕ) (F : Facts) (i j : ℕ) → tree_at P H T d F i ≡ next j → Holds P F σ → ⊥
      unfolding tree_at
      refutes zero F i j e h = refused_not_next e
      refutes (suc d) F i j e h =
          by_test (ltb i T.nodes)
          (λ q.
          by_test (ground P H F (node P H T i))
          (λ g.
          forest_refutes (tree_at P H T d) (refutes d) (children P F (node P H T i)) (suc i) j (rw (q, g, tree_at) at e)
          (node_holds good σ F h H a closed (node P H T i) (node_sane H T i) g))
          (λ g. refused_not_next (rw (q, g, tree_at) at e)))
          (λ q. refused_not_next (rw (q, tree_at) at e))

      -- An accepted tree refutes its assumption.
      pub tree_refutes : (j : ℕ) → tree_answer P H T ≡ next j → ⊥
      unfolding tree_answer
      tree_refutes j e =
          by_answer (tree_at P H T 40 (fresh P) 0)
          (λ i q. refutes 40 (fresh P) 0 i q (fresh_holds P σ))
          (λ n i q. refused_not_next (rw (q, tree_answer) at e))
