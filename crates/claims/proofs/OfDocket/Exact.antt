-- The check accepts a docket just where it keeps every rule of document 01. Assumes nothing.
use Rattle.std.specs.Prelude.{◌≡◌, refl, true, List, ℕ, eqb, Result, Ok, Err}
use Rattle.std.proofs.Common.{sym, subst, ◌∙◌, arith}
use Rattle.std.proofs.Math.Path.{ap}
use Rattle.std.proofs.Math.Bool.{not}
use borrow.Author.Tests.{ltb-true, lt-ltb, eqb-true, not-false}
use Rattle.theory.proofs.Bool.Laws.{by_test, is_false}
use Rattle.theory.proofs.Below.Laws.{all_elim, all_intro}
use Rattle.theory.specs.Judge.{Passes}
use Rattle.theory.proofs.Judge.Laws.{passes-judge}
use Rattle.theory.specs.Protocol.{Protocol}
use Rattle.theory.specs.Ladder.{Layers, lowers_at, handover_at, handover, Laddered}
use Rattle.theory.proofs.Ladder.Handover.{handover_exact}
use Rattle.theory.specs.Facts.{fresh}
use Rattle.theory.specs.Tree.{Walked, next, refused, Tree, Assumption, tree_at, tree_answer}
use Rattle.theory.proofs.Tree.Laws.{refused_not_next}
use Rattle.theory.specs.Subtree.{TreeStands}
use Rattle.theory.specs.Claims.{Certified}
use Rattle.theory.proofs.Claims.Proved.{theorems}
use Rattle.format.specs.Format.{header_of, Sections, sections_of, protocol_in, layers_in, weight_in, weights_of}
use Rattle.format.specs.declared.Header.{Header}
use Rattle.refusals.specs.declared.Refusal.{Refusal}
use Rattle.shape.specs.Shape.{by_shape}
use Rattle.shape.specs.Sound.{SoundShape}
use Rattle.shape.proofs.SoundLaws.{shape_sound}
use Rattle.leaf.specs.Leaf.Laws.{leaf_good, leaf-bad}
use Rattle.checker.specs.Check.{certificate_tests, walk_of, summary_of, tree_check, sections_check, check_of}
use Rattle.checker.specs.Check.Laws.{refused_not_accepted, accepted_tests, accepted_shape, passes_laddered}
use Rattle.checker.specs.declared.Summary.{Summary}
use Rattle.claims.proofs.OfDocket.Refusals.{refuse, refusal_is}
use Rattle.claims.proofs.OfDocket.Handover.{refused_by_10}
use Rattle.claims.specs.OfDocket.{Lowers, tree_in, assumed, Rules, Demand2}

-- A tree that is accepted ends behind its last node.
tree_ends : (P : Protocol) (H : Assumption) (T : Tree) (j : ℕ) → tree_answer P H T ≡ next j → j ≡ T.nodes
unfolding tree_answer
tree_ends P H T j e = go (tree_at P H T 40 (fresh P) 0) refl
  where
    go : (a : Walked) → tree_at P H T 40 (fresh P) 0 ≡ a → j ≡ T.nodes
    go (refused n i) u = absurd (refused_not_next (rw (u, tree_answer) at e))
    go (next i) u =
        by_test (eqb i T.nodes) (λ t. let g : next i ≡ next j = rw (u, t, tree_answer) at e in let s : i ≡ j = cc in sym s ∙ eqb-true _ _ t)
        (λ t. absurd (refused_not_next (rw (u, t, tree_answer) at e)))

-- An accepted walk.
walk-passes : (f g : Summary) (a : Walked) → tree_check f a ≡ Ok g → (j : ℕ) × (a ≡ next j)
walk-passes f g (next j) e = (j, refl)
walk-passes f g (refused n k) e = absurd (refused_not_accepted e)

module _ (b : List ℕ) (h : Header) where
  abbrev P : Protocol
  P = protocol_in b h

  abbrev L : Layers
  L = layers_in b h

  abbrev w : ℕ → ℕ → ℕ
  w = weight_in b h

  abbrev x : Sections
  x = sections_of b h

  abbrev said : Summary
  said = summary_of h.sizes x

  lowers : (r : ℕ) → lowers_at P L w r ≡ true → Lowers b h r
  unfolding lowers_at
  lowers r = ltb-true _ _

  lowers_test : (r : ℕ) → Lowers b h r → lowers_at P L w r ≡ true
  unfolding lowers_at
  lowers_test r = lt-ltb _ _

  -- The walk accepts just the trees that stand.
  walked : TreeStands P (assumed b h) (tree_in b h) → walk_of h.sizes x ≡ next h.sizes.nodes
  walked = ((theorems P).tree_stands (assumed b h) (tree_in b h)).1

  -- Tests 9 to 11 pass where the rules are kept.
  passes : Rules b h → Passes (certificate_tests h.sizes x)
  unfolding handover
  passes k = (
    λ r l. ap not (lowers_test r (k.lowering r l)),
    (
      λ s l. ap not (all_elim _ (handover_at P L) ((handover_exact P L k.shape.sections.formed).1 k.handover) s l),
      (
        λ i l. is_false _ (λ e. let a = leaf-bad h.sizes x.leaves i e in let m = k.leaf_weights i a.0 a.1 l a.2 a.3 in omega (arith, a.4)),
        tt,
      ),
    ),
  )

  certificate : Rules b h → sections_check h.sizes x ≡ Ok said
  unfolding sections_check
  certificate k = passes-judge refuse _ _ (passes k) ∙ ap (tree_check said) (walked k.tree)

  accepted : Rules b h → check_of b ≡ Ok said
  unfolding check_of
  accepted k = ap (by_shape Err (λ k. sections_check k.sizes (sections_of b k))) (shape_sound b h k.shape) ∙ certificate k

  kept : (f : Summary) → SoundShape b h → sections_check h.sizes x ≡ Ok f → Rules b h
  unfolding sections_check handover
  kept f sound e =
      let ts = certificate_tests h.sizes x in
      let end = tree_check said (walk_of h.sizes x) in
      let p = accepted_tests h.sizes x f e in
      let v = walk-passes said f _ (sym (passes-judge refuse end ts p) ∙ e) in
      let j = tree_ends P (assumed b h) (tree_in b h) v.0 v.1 in
      record {
        shape = sound;
        lowering = λ r l. lowers r (not-false _ (p.0 r l));
        handover = (handover_exact P L sound.sections.formed).0 (all_intro _ (handover_at P L) (λ s l. not-false _ (p.1.0 s l)));
        leaf_weights = λ l i s m n o. leaf_good h.sizes x.leaves l (p.1.1.0 l m) i s n o;
        tree = ((theorems P).tree_stands (assumed b h) (tree_in b h)).0 (v.1 ∙ ap next j);
      }

  pub laddered : Rules b h → Laddered P L w
  laddered k = passes_laddered b h k.shape (passes k)

  pub certified : Rules b h → Certified P
  certified k = record {
    layers = L;
    weight = w;
    ladder = laddered k;
    tree = tree_in b h;
    leaf_weight = weights_of h.sizes x.leaves;
    closed = walked k.tree;
  }

module _ (b : List ℕ) where
  kept_of : (f : Summary) → check_of b ≡ Ok f → (h : Header) × Rules b h
  kept_of f e = let s = accepted_shape b f e in (s.0, kept b s.0 f s.1 s.2)

  pub demand_2 : Demand2 b
  demand_2 = record {
    exact = (λ a. kept_of a.0 a.1, λ k. (said b k.0, accepted b k.0 k.1));
    summary = accepted b;
    refusals = λ n i e h k. refused_not_accepted (sym e ∙ accepted b h k);
    refusal_is = refusal_is b;
    handover_exact = λ h sound. handover_exact (protocol_in b h) (layers_in b h) sound.sections.formed;
    handover_broken = λ s e. (refused_by_10 b s e).0;
    handover_lowest = λ s e. (refused_by_10 b s e).1;
    certified = certified b;
    laddered = laddered b;
  }

-- What is known of the header of an accepted docket.
module _ (b : List ℕ) (a : Result Summary Refusal) (e : a ≡ check_of b) (f : Summary) (u : a ≡ Ok f) (h : Header) (q : h ≡ header_of b) where
  pub accepted_sound : SoundShape b h
  accepted_sound = let s = accepted_shape b f (sym e ∙ u) in subst (SoundShape b) (s.1.header ∙ sym q) s.1

  pub accepted_laddered : Laddered (protocol_in b h) (layers_in b h) (weight_in b h)
  accepted_laddered =
      let s = accepted_shape b f (sym e ∙ u) in
      subst (λ k. Laddered (protocol_in b k) (layers_in b k) (weight_in b k)) (s.1.header ∙ sym q)
      (passes_laddered b s.0 s.1 (accepted_tests s.0.sizes (sections_of b s.0) f s.2))
