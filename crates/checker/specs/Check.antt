-- The whole check of a docket (document 01, "What a call says"): tests 1 to 13 in order, with 14
-- between 7 and 8; a tree goes node by node.
use Rattle.std.specs.Prelude.{not, List, [], ◌∷◌, ℕ, Result, Ok, Err}
use Rattle.theory.specs.Judge.{Test, judge}
use Rattle.theory.specs.Protocol.{Protocol}
use Rattle.theory.specs.Ladder.{Layers, lowers_at, handover_at, spreads}
use Rattle.theory.specs.Tree.{Walked, next, refused, disagreement, tree_answer, widest}
use Rattle.format.specs.Format.{Sections, sections_of, layer_weight, protocol_of, layers_of, tree_of, weights_of}
use Rattle.format.specs.declared.Sizes.{Sizes}
use Rattle.refusals.specs.declared.Refusal.{Refusal}
use Rattle.refusals.specs.Refusal.{refusal}
use Rattle.shape.specs.Shape.{shape_of, by_shape}
use Rattle.leaf.specs.Leaf.{leaf_test}
use Rattle.checker.specs.declared.Summary.{Summary}
pub mod Laws

-- The sections x of a docket with sizes z.
module _ (z : Sizes) (x : Sections) where
  abbrev P : Protocol
  P = protocol_of z x.states x.rules

  abbrev L : Layers
  L = layers_of z x.rules

  abbrev w : ℕ → ℕ → ℕ
  w = layer_weight z.states x.layers

  -- Tests 9 to 11: lowering at each rule, handover at each rule, the weights of each leaf.
  abbrev pub certificate_tests : List Test
  certificate_tests =
      record { number = 9; places = z.rules; bad = λ r. not (lowers_at P L w r) }
      ∷ record { number = 10; places = z.rules; bad = λ s. not (handover_at P L s) }
      ∷ leaf_test z x.leaves
      ∷ []

  -- Tests 12 and 13: the walk of the tree, which refutes that from one start run 1 ends with a state of output 0 and run 2 with
  -- a state of output 1.
  abbrev pub walk_of : Walked
  walk_of = tree_answer P (disagreement P (weights_of z x.leaves)) (tree_of z x.nodes)

  -- What is said of an accepted docket: S, R, L, N, W and M.
  abbrev pub summary_of : Summary
  summary_of =
      record {
        states = z.states;
        rules = z.rules;
        layers = z.layers;
        nodes = z.nodes;
        spreads = spreads P L w;
        widest = widest (tree_of z x.nodes);
      }

-- What the walk comes to, f being what is said of an accepted docket.
abbrev pub tree_check : Summary → Walked → Result Summary Refusal
tree_check f (next j) = Ok f
tree_check f (refused n k) = Err (refusal n k)

-- Tests 9 to 13.
unfoldable pub sections_check : Sizes → Sections → Result Summary Refusal
sections_check z x = judge (λ n k. Err (refusal n k)) (tree_check (summary_of z x) (walk_of z x)) (certificate_tests z x)

-- The check: tests 1 to 8, then the others.
unfoldable pub check_of : List ℕ → Result Summary Refusal
check_of b = by_shape Err (λ h. sections_check h.sizes (sections_of b h)) (shape_of b)

-- What a call that wants an accepted docket comes to: x, or what it makes of the check's refusal.
abbrev pub on_accepted : {A : Type 0} → (Refusal → A) → A → Result Summary Refusal → A
on_accepted refuse x (Ok f) = x
on_accepted refuse x (Err r) = refuse r
