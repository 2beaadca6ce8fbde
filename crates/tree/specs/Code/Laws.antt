-- Laws for the walk of a tree, its aim and its widest set. Assumes nothing.
use Rattle.std.specs.Prelude.{◌≡◌, Bool, true, false, not, cond, ◌&&◌, List, [], ◌∷◌, eqb, ltb, Result, Ok, Err}
use Rattle.std.proofs.Math.Path.{refl, sym, ap, fun_ext}
use Rattle.std.proofs.Common.{◌∙◌, lt-ltb, le-ltb}
use Prim.Native.Nat.{ℕ, zero, suc, ◌+◌, ◌-◌, ◌≤◌, ◌<◌, max}
use Rattle.std.proofs.Math.Numerals.{add-one}
use native.Mathlib.Omega.{arith}
use Rattle.theory.specs.Bool.{member}
use Rattle.theory.proofs.Bool.Laws.{by_test}
use Rattle.theory.proofs.Below.Scan.{at_end}
use Rattle.theory.specs.Protocol.{Protocol}
use Rattle.theory.specs.Facts.{Facts, fresh}
use Rattle.theory.specs.Tree.{Tree, Assumption, Walked, next, refused, forest, ground, assuming, disagreement}
use Rattle.theory.specs.Tree.{node, tree_at, tree_answer}
use Rattle.theory.specs.Tree.{widest_below, widest}
use Rattle.refusals.specs.declared.Refusal.{Refusal}
use Rattle.refusals.specs.Code.{number_of}
use Rattle.refusals.specs.declared.Fault.{Fault}
use Rattle.bits.specs.Code.{full_of, among_of, without_of}
use Rattle.format.specs.Format.{is_input, is_output, fixed_of, protocol_of, tree_of, weights_of}
use Rattle.format.specs.declared.Sizes.{Sizes}
use Rattle.facts.specs.Code.{facts_of, fresh_of}
use Rattle.facts.specs.Code.Laws.{fresh_is}
use Rattle.facts.specs.declared.Facts as code
use Rattle.threshold.specs.Code.{closes_for, moduli_for, closes_modulo_for}
use Rattle.threshold.specs.declared.Leaves.{Leaves}
use Rattle.threshold.specs.declared.Leaves.TheVariants.{OfDocket}
use Rattle.node.specs.Code.{assumption_of, Turn, refuse, proceed, node_turn, turn_at, turn_of_step}
use Rattle.node.specs.declared.Aim.{Aim}
use Rattle.node.specs.declared.Children.{Children}
use Rattle.node.specs.declared.Children.TheVariants.{None, One, Two}
use Rattle.tree.specs.Code.{walked_of, AimsAt, set_size_at}

-- ---- Children in turn

module _ (t : Facts → ℕ → Walked) (G : Facts) (Gs : List Facts) (i : ℕ) where
  forest_stops : (n j : ℕ) → t G i ≡ refused n j → forest t (G ∷ Gs) i ≡ refused n j
  unfolding forest
  forest_stops n j e = rw (e, forest)

  forest_goes : (j : ℕ) → t G i ≡ next j → forest t (G ∷ Gs) i ≡ forest t Gs j
  unfolding forest
  forest_goes j e = rw (e, forest)

-- A single child.
forest_one : (t : Facts → ℕ → Walked) (G : Facts) (i : ℕ) → forest t (G ∷ []) i ≡ t G i
unfolding forest
forest_one t G i = go (t G i) refl
  where
    go : (a : Walked) → t G i ≡ a → forest t (G ∷ []) i ≡ t G i
    go (next j) e = forest_goes t G [] i j e ∙ sym e
    go (refused n j) e = forest_stops t G [] i n j e ∙ sym e

-- ---- One node of the walk

-- Where a walk goes from node i that comes to a turn; t walks one child.
abbrev follow : (Facts → ℕ → Walked) → ℕ → Turn → Walked
follow t i (refuse n) = refused n i
follow t i (proceed Fs) = forest t Fs (suc i)

module _ (P : Protocol) (H : Assumption) (T : Tree) (F : Facts) (i : ℕ) where
  at_node : (d : ℕ) → i < T.nodes → tree_at P H T (suc d) F i ≡ follow (tree_at P H T d) i (node_turn P H F (node P H T i))
  unfolding tree_at node_turn
  at_node d l =
      by_test (ground P H F (node P H T i))
      (λ g. rw (lt-ltb i T.nodes l, tree_at, g))
      (λ g. rw (lt-ltb i T.nodes l, tree_at, g))

-- ---- A turn of the walk, which is to come to W

module _ (P : Protocol) (H : Assumption) (T : Tree) (d : ℕ) (F : Facts) (i : ℕ) (W : Walked) (so_far : tree_at P H T d F i ≡ W) (y : Walked) where
  pub walk-deep : d ≤ 0 → y ≡ refused 12 i → y ≡ W
  unfolding tree_at
  walk-deep h e = e ∙ sym (deep d h) ∙ so_far
    where
      deep : (k : ℕ) → k ≤ 0 → tree_at P H T k F i ≡ refused 12 i
      deep zero m = refl
      deep (suc k) m = absurd (omega arith)

  pub walk_past : 0 < d → T.nodes ≤ i → y ≡ refused 12 T.nodes → y ≡ W
  unfolding tree_at
  walk_past h l e = e ∙ sym (past d h) ∙ so_far
    where
      past : (k : ℕ) → 0 < k → tree_at P H T k F i ≡ refused 12 T.nodes
      past zero m = absurd (omega arith)
      past (suc k) m = rw (le-ltb i T.nodes l, tree_at)

-- Node i comes to s.
module _ (z : Sizes) (states rules nodes numbers leaves : List ℕ) (aim : Aim) (d : ℕ) (F : Facts) (i : ℕ) (s : Result Children Fault) (h : 0 < d)
    (l : i < z.nodes) (e : turn_of_step s ≡ turn_at z states rules nodes numbers leaves aim F i) where
  abbrev walk : ℕ → Facts → ℕ → Walked
  walk = let P = protocol_of z states rules in tree_at P (assumption_of P z numbers leaves aim) (tree_of z nodes)

  abbrev below : Facts → ℕ → Walked
  below = walk (d - 1)

  module _ (W : Walked) (so_far : walk d F i ≡ W) where
    came : (o : Result Children Fault) → s ≡ o → follow below i (turn_of_step o) ≡ W
    unfolding turn_at
    came o q = sym (go d h ∙ ap (λ (x : Result Children Fault). follow below i (turn_of_step x)) q) ∙ so_far
      where
        go : (k : ℕ) → 0 < k → walk k F i ≡ follow (walk (k - 1)) i (turn_of_step s)
        go zero m = absurd (omega arith)
        go (suc k) m = let q : suc k - 1 ≡ k = omega arith in rw (q, e) (at_node _ _ (tree_of z nodes) F i k l)

    pub step_refused : (f : Fault) (y : Walked) → s ≡ Err f → y ≡ refused (number_of f) i → y ≡ W
    step_refused f y q a = a ∙ came (Err f) q

    pub step_closed : s ≡ Ok None → next (i + 1) ≡ W
    unfolding forest
    step_closed q = rw add-one (came (Ok None) q)

    pub step_child : (G : code.Facts) → s ≡ Ok (One G) → below (facts_of G) (i + 1) ≡ W
    step_child G q = rw add-one (sym (forest_one below (facts_of G) (suc i)) ∙ came (Ok (One G)) q)

    -- Two children: the walk of the first comes to x.
    module _ (G K : code.Facts) (x : Result ℕ Refusal) (q : s ≡ Ok (Two G K)) (a : walked_of x ≡ below (facts_of G) (i + 1)) where
      pub step_stopped : (r : Refusal) (y : Walked) → x ≡ Err r → y ≡ walked_of (Err r) → y ≡ W
      step_stopped r y u v =
          let f : below (facts_of G) (suc i) ≡ refused r.number r.place = sym (rw add-one at a) ∙ ap walked_of u in
          v ∙ sym (forest_stops below (facts_of G) (facts_of K ∷ []) (suc i) _ _ f) ∙ came (Ok (Two G K)) q

      pub step_second : (j : ℕ) → x ≡ Ok j → below (facts_of K) j ≡ W
      step_second j u =
          let f : below (facts_of G) (suc i) ≡ next j = sym (rw add-one at a) ∙ ap walked_of u in
          sym (forest_one below (facts_of K) j)
          ∙ sym (forest_goes below (facts_of G) (facts_of K ∷ []) (suc i) j f)
          ∙ came (Ok (Two G K)) q

pub ruleset steps = (walk-deep, walk_past, step_refused, step_closed, step_child, step_stopped, step_second)

-- ---- The whole tree

-- By the words u of the inputs and v of the states with fixed agents the facts F are fresh.
pub fresh_facts : (z : Sizes) (states rules : List ℕ) (u v : ℕ) (F : Facts) → z.states ≤ 64 → member u ≡ among_of z.states (is_input z states)
    → member v ≡ among_of z.states (λ s. ltb 0 (fixed_of z states s))
    → F ≡ fresh_of z.states (member u) (member v) → F ≡ fresh (protocol_of z states rules)
fresh_facts z states rules u v F h e d f = f ∙ fresh_is (protocol_of z states rules) u v h e d

-- The walk comes to x.
module _ (P : Protocol) (H : Assumption) (T : Tree) (F : Facts) (x : Result ℕ Refusal) (facts : F ≡ fresh P)
    (walked : walked_of x ≡ tree_at P H T 40 F 0) where
  came_to : tree_at P H T 40 (fresh P) 0 ≡ walked_of x
  came_to = sym (rw facts at walked)

  pub answer_refused : (r : Refusal) (y : Walked) → x ≡ Err r → y ≡ walked_of (Err r) → y ≡ tree_answer P H T
  unfolding tree_answer
  answer_refused r y e f = f ∙ sym (rw (came_to, e, tree_answer))

  pub answer_whole : (j : ℕ) → x ≡ Ok j → eqb j T.nodes ≡ true → next j ≡ tree_answer P H T
  unfolding tree_answer
  answer_whole j e t = sym (rw (came_to, e, tree_answer, t))

  pub answer_left : (j : ℕ) (y : Walked) → x ≡ Ok j → eqb j T.nodes ≡ false → y ≡ refused 12 j → y ≡ tree_answer P H T
  unfolding tree_answer
  answer_left j y e t f = f ∙ sym (rw (came_to, e, tree_answer, t))

pub ruleset answers = (answer_refused, answer_whole, answer_left)

-- ---- What a tree refutes

other_states : (h l b : Bool) → (h && l) && not (h && (l && b)) ≡ h && (l && not b)
other_states true true b = refl
other_states true false b = refl
other_states false l b = refl

-- x has all states, w those of output 1 and y the others.
pub aims_at : (z : Sizes) (states : List ℕ) (k : ℕ) (u v : Bool) (whose : Leaves) (x y w : ℕ) → k ≤ 2
    → member w ≡ among_of z.states (is_output z states) → member x ≡ full_of z.states → member y ≡ without_of x w
    → AimsAt z states k u v whose (record { runs = k; first = u; second = v; zeros = y; ones = w; whose = whose })
unfolding among_of
aims_at z states k u v whose x y w few e d f =
    record {
      fits = record {
        runs_most = few;
        zeros = f ∙ fun_ext (λ s. rw (d, e) (other_states (ltb s 64) (ltb s z.states) (is_output z states s)));
        ones = e;
      };
      runs = refl;
      first = refl;
      second = refl;
      leaves = refl;
    }

cond_self : (b : Bool) → cond b true false ≡ b
cond_self true = refl
cond_self false = refl

-- A docket's tree.
pub answer_disagrees : (z : Sizes) (states numbers leaves : List ℕ) (P : Protocol) (T : Tree) (a : Aim) (x : Walked)
    → AimsAt z states 2 false true OfDocket a → x ≡ tree_answer P (assumption_of P z numbers leaves a) T
    → x ≡ tree_answer P (disagreement P (weights_of z leaves)) T
unfolding disagreement closes_for moduli_for closes_modulo_for
answer_disagrees z states numbers leaves P T a x h e =
    e
    ∙ ap (λ (H : Assumption). tree_answer P H T)
    (rw (h.runs, h.first, h.second, h.leaves)
    (ap (λ (f : ℕ → Bool). assuming P 2 f (weights_of z leaves)) (fun_ext (λ k. cond_self (eqb k 2)))))

-- ---- The widest set

module _ (z : Sizes) (nodes : List ℕ) where
  pub widest_none : 0 ≡ widest_below (tree_of z nodes) 0
  unfolding widest_below
  widest_none = refl

  -- The set of node i names n states; m is the greatest number before it.
  pub widest_more : (i m n x : ℕ) → m ≡ widest_below (tree_of z nodes) i → n ≡ set_size_at nodes i → x ≡ max m n
      → x ≡ widest_below (tree_of z nodes) (i + 1)
  unfolding widest_below set_size_at
  widest_more i m n x e s h = h ∙ rw (add-one, e, s)

  pub widest-end : (i m : ℕ) → m ≡ widest_below (tree_of z nodes) i → i ≤ z.nodes → z.nodes ≤ i → m ≡ widest (tree_of z nodes)
  unfolding widest
  widest-end i m = at_end (widest_below (tree_of z nodes)) i z.nodes m

pub ruleset widths = (widest_none, widest_more, widest-end)
