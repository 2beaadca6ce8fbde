-- What tests 1 to 8 say of a docket that passes them, in words a caller can use. SoundLaws, in proofs/, proves that a sound shape gives it,
-- and that nothing else does.
use Rattle.std.specs.Prelude.{◌≡◌, List, ◌⊎◌, ℕ, ◌+◌, ◌≤◌, ◌<◌, length}
use Rattle.theory.specs.Order.{Ascending}
use Rattle.theory.specs.Protocol.{WellFormed}
use Rattle.theory.specs.Ladder.{OrderedPartition}
use Rattle.format.specs.Format.{header_of, states_length, rules_length, layers_length, nodes_length, leaves_length, Sections, sections_of}
use Rattle.format.specs.Format.{flags, fixed_of, rule_p, rule_q, rule_p', rule_q', rule_of, rule_key, layer_weight, protocol_of, layers_of}
use Rattle.format.specs.declared.Sizes.{Sizes}
use Rattle.format.specs.declared.Header.{Header}

-- v is 1 or 2 (test 2).
abbrev pub IsVersion : ℕ → Type 0
IsVersion v = (v ≡ 1) ⊎ (v ≡ 2)

-- The counts are within their limits (test 3).
pub record Limits (z : Sizes) : Type 0 where
  pub states_least : 2 ≤ z.states
  pub states_most : z.states ≤ 64
  pub rules_most : z.rules ≤ 256
  pub layers_most : z.layers ≤ 16
  pub no_layers : z.layers ≡ 0 → z.rules ≡ 0
  pub no_rules : z.rules ≡ 0 → z.layers ≡ 0
  pub nodes_least : 1 ≤ z.nodes
  pub nodes_most : z.nodes ≤ 2048
  pub leaves_most : z.leaves ≤ 128

-- Each section begins where the one before ends, the first at byte 24, and the last ends where the bytes end (tests 1 and 4).
pub record Laid (b : List ℕ) (h : Header) : Type 0 where
  pub states : h.at.states ≡ 24
  pub rules : h.at.rules ≡ h.at.states + states_length h.sizes
  pub layers : h.at.layers ≡ h.at.rules + rules_length h.sizes
  pub nodes : h.at.nodes ≡ h.at.layers + layers_length h.sizes
  pub leaves : h.at.leaves ≡ h.at.nodes + nodes_length h.sizes
  pub total : h.at.total ≡ h.at.leaves + leaves_length h.sizes
  pub whole : length b ≡ h.at.total

-- The n rules stand in order, each after the one before it.
abbrev pub InOrder : ℕ → List ℕ → Type 0
InOrder n rules = Ascending (λ r. rule_key (rule_of rules r)) n

-- The records are as tests 5 to 8 and 14 want them.
pub record SoundSections (z : Sizes) (x : Sections) : Type 0 where
  pub state_bits : (s : ℕ) → s < z.states → flags z x.states s ≤ 3
  pub fixed_most : (s : ℕ) → s < z.states → fixed_of z x.states s ≤ 1000
  pub formed : WellFormed (protocol_of z x.states x.rules)
  pub partition : OrderedPartition (protocol_of z x.states x.rules) (layers_of z x.rules)
  pub rules_distinct : (e r : ℕ) → e < r → r < z.rules → rule_p x.rules e ≡ rule_p x.rules r → rule_q x.rules e ≡ rule_q x.rules r
      → rule_p' x.rules e ≡ rule_p' x.rules r → rule_q' x.rules e ≡ rule_q' x.rules r → ⊥
  pub ascending : z.version ≡ 2 → InOrder z.rules x.rules
  pub weights_most : (l s : ℕ) → l < z.layers → s < z.states → layer_weight z.states x.layers l s ≤ 1000000

-- The bytes b, with header h, pass tests 1 to 8.
pub record SoundShape (b : List ℕ) (h : Header) : Type 0 where
  pub header : h ≡ header_of b
  pub version : IsVersion h.sizes.version
  pub limits : Limits h.sizes
  pub laid : Laid b h
  pub sections : SoundSections h.sizes (sections_of b h)
