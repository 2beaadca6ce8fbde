-- What the functions of the shape answer, beside the tests themselves, and the lengths that callers use.
use Rattle.std.specs.Prelude.{◌≡◌, Bool, not, cond, ◌||◌, ◌&&◌, List, [], ℕ, ◌+◌, ◌*◌, ◌%◌, ◌≤◌, ◌<◌, ltb, length, Result, Ok, Err}
use Rattle.theory.specs.Below.{any_below}
use Rattle.theory.specs.Judge.{judge}
use Rattle.format.specs.Format.{states_length, rules_length, layers_length, nodes_length, leaves_length, sections, sections_of}
use Rattle.format.specs.Format.{rule_p, rule_q, rule_p', rule_q', rule_of}
use Rattle.format.specs.declared.Sizes.{Sizes}
use Rattle.format.specs.declared.Header.{Header}
use Rattle.format.specs.declared.Rule.{Rule}
use Rattle.shape.specs.Shape.{same_before, same_after, in_layer, section_tests}
use Rattle.shape.specs.declared.sound.Docket.{Docket}
use Rattle.refusals.specs.declared.Refusal.{Refusal}
use Rattle.refusals.specs.Refusal.{refusal}

-- Rules x and y have the same before pair and, if whole, the same after pair.
abbrev pub same_fields : Bool → Rule → Rule → Bool
same_fields whole x y = same_before x y && (not whole || same_after x y)

-- Rule e is like rule y.
unfoldable pub alike : List ℕ → Bool → Rule → ℕ → Bool
alike rules whole y e = same_fields whole (rule_of rules e) y

-- An earlier rule is like rule r.
unfoldable pub again : List ℕ → Bool → ℕ → Bool
again rules whole r = any_below r (alike rules whole (rule_of rules r))

-- The mark of rule r: a number below 4096 that is the same for rules that are alike. If whole, and where states are below 64,
-- it differs for two after pairs of one before pair, and for other rules it seldom agrees.
abbrev pub mark_of : List ℕ → Bool → ℕ → ℕ
mark_of rules whole r =
    cond whole
    ((64 * rule_p' rules r + rule_q' rules r + 709 * rule_p rules r + 1493 * rule_q rules r) % 4096)
    ((64 * rule_p rules r + rule_q rules r) % 4096)

-- The layers below 64 that one of the first n rules is in.
unfoldable pub used_below : List ℕ → ℕ → ℕ → Bool
used_below rules n l = ltb l 64 && any_below n (in_layer rules l)

-- What section_tests answers.
unfoldable pub tested_of : Sizes → List ℕ → List ℕ → List ℕ → Result (Unit {0}) Refusal
tested_of z states rules layers = judge (λ n k. Err (refusal n k)) (Ok tt) (section_tests z (sections states rules layers [] []))

-- The header of a docket that passes tests 1 to 8; a refusal is passed on.
abbrev pub header_in : Result Docket Refusal → Result Header Refusal
header_in (Ok d) = Ok d.header
header_in (Err r) = Err r

-- The refusal of a docket that the tests refuse; 0, 0 for one that passes them.
abbrev pub refusal_of : Result Header Refusal → Refusal
refusal_of (Ok h) = refusal 0 0
refusal_of (Err r) = r

-- The sections have the lengths that their records need.
pub record Lengths (b : List ℕ) (h : Header) : Type 0 where
  pub states : length (sections_of b h).states ≡ states_length h.sizes
  pub rules : length (sections_of b h).rules ≡ rules_length h.sizes
  pub layers : length (sections_of b h).layers ≡ layers_length h.sizes
  pub nodes : length (sections_of b h).nodes ≡ nodes_length h.sizes
  pub leaves : length (sections_of b h).leaves ≡ leaves_length h.sizes

-- What callers need of tests 3, 4 and 6 for the rules: states and rules are so few that words hold them, the section is
-- whole, and a rule is of states.
pub record SoundRules (z : Sizes) (rules : List ℕ) : Type 0 where
  pub states_most : z.states ≤ 64
  pub rules_most : z.rules ≤ 256
  pub whole : 5 * z.rules ≤ length rules
  pub p_lt : (r : ℕ) → r < z.rules → rule_p rules r < z.states
  pub q_lt : (r : ℕ) → r < z.rules → rule_q rules r < z.states
  pub p'_lt : (r : ℕ) → r < z.rules → rule_p' rules r < z.states
  pub q'_lt : (r : ℕ) → r < z.rules → rule_q' rules r < z.states
