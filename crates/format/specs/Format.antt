-- The docket file (document 01, "The file"; version 2: document 02, Jobs 4 and 5): its header, its five sections, and the
-- protocol, the layers and weights of the ladder, the tree and the leaf weights that they stand for. Everywhere b are a docket's
-- bytes, h its header, z its sizes.
use Rattle.std.specs.Prelude.{Bool, cond, List, [], ◌∷◌, ℕ, ◌+◌, ◌-◌, ◌*◌, ◌/◌, ◌%◌, eqb, get_or}
use Rattle.theory.specs.Order.{lex_less}
use Rattle.theory.specs.Protocol.{Protocol}
use Rattle.theory.specs.Ladder.{Layers}
use Rattle.theory.specs.Tree.{Tree}
use Rattle.format.specs.Bytes.{le16, le32, le64, section}
use Rattle.format.specs.declared.Sizes.{Sizes}
use Rattle.format.specs.declared.Header.{Header}
use Rattle.format.specs.declared.Rule.{Rule}

-- The header: twelve 16-bit numbers.
abbrev pub header_of : List ℕ → Header
header_of b =
    record {
      sizes = record { version = le16 b 0; states = le16 b 2; rules = le16 b 4; layers = le16 b 6; nodes = le16 b 8; leaves = le16 b 10 };
      at = record { states = le16 b 12; rules = le16 b 14; layers = le16 b 16; nodes = le16 b 18; leaves = le16 b 20; total = le16 b 22 };
    }

-- The bytes of the five sections.
pub record Sections : Type 0 where
  pub states : List ℕ
  pub rules : List ℕ
  pub layers : List ℕ
  pub nodes : List ℕ
  pub leaves : List ℕ

-- The sections that a function is lent as five slices.
abbrev pub sections : List ℕ → List ℕ → List ℕ → List ℕ → List ℕ → Sections
sections a b c d e = record { states = a; rules = b; layers = c; nodes = d; leaves = e }

-- How many bytes a state record has: one, and three in version 2.
abbrev pub state_width : ℕ → ℕ
state_width version = cond (eqb version 2) 3 1

-- How many bytes each section has.
module _ (z : Sizes) where
  abbrev pub states_length : ℕ
  states_length = state_width z.version * z.states

  abbrev pub rules_length : ℕ
  rules_length = 5 * z.rules

  abbrev pub layers_length : ℕ
  layers_length = 4 * (z.layers * z.states)

  abbrev pub nodes_length : ℕ
  nodes_length = 12 * z.nodes

  abbrev pub leaves_length : ℕ
  leaves_length = 4 * (z.leaves * z.states)

-- The sections of the bytes b, at the offsets of h.
abbrev pub sections_of : List ℕ → Header → Sections
sections_of b h =
    record {
      states = section b h.at.states (states_length h.sizes);
      rules = section b h.at.rules (rules_length h.sizes);
      layers = section b h.at.layers (layers_length h.sizes);
      nodes = section b h.at.nodes (nodes_length h.sizes);
      leaves = section b h.at.leaves (leaves_length h.sizes);
    }

-- ---- One record of each section

-- State s: of its first byte bit 0 is the output (document 01: the verdict), and bit 1 is set for an input state.
module _ (z : Sizes) (xs : List ℕ) (s : ℕ) where
  abbrev pub flags : ℕ
  flags = get_or xs (state_width z.version * s) 0

  abbrev pub is_output : Bool
  is_output = eqb (flags % 2) 1

  abbrev pub is_input : Bool
  is_input = eqb (flags / 2 % 2) 1

  -- Its fixed agents: in version 2 the number in the two bytes behind the first; in version 1 there are none.
  abbrev pub fixed_of : ℕ
  fixed_of = cond (eqb z.version 2) (le16 xs (3 * s + 1)) 0

-- Rule r: the before pair p, q, the after pair p', q', the layer.
module _ (xs : List ℕ) (r : ℕ) where
  abbrev pub rule_p : ℕ
  rule_p = get_or xs (5 * r) 0

  abbrev pub rule_q : ℕ
  rule_q = get_or xs (5 * r + 1) 0

  abbrev pub rule_p' : ℕ
  rule_p' = get_or xs (5 * r + 2) 0

  abbrev pub rule_q' : ℕ
  rule_q' = get_or xs (5 * r + 3) 0

  abbrev pub rule_layer : ℕ
  rule_layer = get_or xs (5 * r + 4) 0

  abbrev pub rule_of : Rule
  rule_of = record { p = rule_p; q = rule_q; p2 = rule_p'; q2 = rule_q'; layer = rule_layer }

-- The numbers of a rule by which rules are put in order (document 02, Job 5): its layer, then p, q, p', q'.
abbrev pub rule_key : Rule → List ℕ
rule_key x = x.layer ∷ x.p ∷ x.q ∷ x.p2 ∷ x.q2 ∷ []

-- Rule x comes before rule y in this order.
abbrev pub rule_before : Rule → Rule → Bool
rule_before x y = lex_less (rule_key x) (rule_key y)

-- Layer l's weight of state s, of n states.
abbrev pub layer_weight : ℕ → List ℕ → ℕ → ℕ → ℕ
layer_weight n xs l s = le32 xs (4 * (l * n + s))

-- Node i: kind, party, argument, set.
module _ (xs : List ℕ) (i : ℕ) where
  abbrev pub node_kind : ℕ
  node_kind = get_or xs (12 * i) 0

  abbrev pub node_party : ℕ
  node_party = get_or xs (12 * i + 1) 0

  abbrev pub node_argument : ℕ
  node_argument = le16 xs (12 * i + 2)

  abbrev pub node_set : ℕ
  node_set = le64 xs (12 * i + 4)

-- Leaf l's weight of state s at end e + 1, of n states, as the 16 bits that stand in the file.
abbrev pub leaf_bits : ℕ → List ℕ → ℕ → ℕ → ℕ → ℕ
leaf_bits n xs l e s = le16 xs (2 * (2 * (l * n) + e * n + s))

-- A signed weight y stands in the file as y modulo 65,536. Biased it is y + 10,000 modulo 65,536, which is 0 to 20,000 just
-- where y is -10,000 to 10,000, and then y + 10,000 itself.
abbrev pub biased : ℕ → ℕ
biased bits = (bits + 10000) % 65536

-- Leaf l's weight of state s at end e + 1, plus 10,000.
abbrev pub end_weight : Sizes → List ℕ → ℕ → ℕ → ℕ → ℕ
end_weight z leaves l e s = biased (leaf_bits z.states leaves l e s)

-- ---- What the sections stand for

-- The protocol that states and rules stand for.
abbrev pub protocol_of : Sizes → List ℕ → List ℕ → Protocol
protocol_of z states rules =
    record {
      states = z.states;
      rules = z.rules;
      p = rule_p rules;
      q = rule_q rules;
      p' = rule_p' rules;
      q' = rule_q' rules;
      output = is_output z states;
      input = is_input z states;
      fixed = fixed_of z states;
    }

-- The layers of the rules.
abbrev pub layers_of : Sizes → List ℕ → Layers
layers_of z rules = record { count = z.layers; of = rule_layer rules }

-- The tree that the nodes stand for.
abbrev pub tree_of : Sizes → List ℕ → Tree
tree_of z nodes =
    record {
      nodes = z.nodes;
      leaves = z.leaves;
      kind = node_kind nodes;
      party = node_party nodes;
      argument = node_argument nodes;
      set = node_set nodes;
    }

-- Leaf l's weight, plus 10,000, of state s at end k, 1 or 2.
abbrev pub weights_of : Sizes → List ℕ → ℕ → ℕ → ℕ → ℕ
weights_of z leaves l k s = end_weight z leaves l (k - 1) s

-- The protocol, the layers of its rules and their weights, of a docket with header h.
module _ (b : List ℕ) (h : Header) where
  abbrev pub protocol_in : Protocol
  protocol_in = let x = sections_of b h in protocol_of h.sizes x.states x.rules

  abbrev pub layers_in : Layers
  layers_in = layers_of h.sizes (sections_of b h).rules

  abbrev pub weight_in : ℕ → ℕ → ℕ
  weight_in = layer_weight h.sizes.states (sections_of b h).layers
