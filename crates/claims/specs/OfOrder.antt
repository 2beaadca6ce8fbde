-- What is proved of the order of rules (document 02, Job 5), in which the rules of every docket of version 2 stand that passes
-- tests 1 to 8. Statements only; proofs/OfOrder/ proves them.
use Rattle.refusals.specs.Refusal.{refusal}
use Rattle.std.specs.Prelude.{◌≡◌, true, false, ◌↔◌, ◌⊎◌, ℕ, suc, ◌<◌, take, Err}
use mathlib.Core.List.{List, Lex}
use Rattle.theory.specs.Judge.{Test, Passes}
use Rattle.theory.specs.Protocol.{enabled}
use Rattle.theory.specs.Machine.{Uses}
use Rattle.format.specs.Format.{header_of, sections_of, rule_of, rule_key, rule_before, protocol_in, layers_in}
use Rattle.format.specs.declared.Header.{Header}
use Rattle.format.specs.declared.Rule.{Rule}
use Rattle.shape.specs.Shape.{shape_tests, shape_of}
use Rattle.shape.specs.Sound.{InOrder, SoundShape}
use Rattle.checker.specs.Check.{check_of}

-- Rule r of the bytes b with header h: its four states and its layer.
abbrev pub rule_in : List ℕ → Header → ℕ → Rule
rule_in b h r = rule_of (sections_of b h).rules r

-- Each rule of b, with its layer, is one of d, under whatever number.
abbrev pub RulesAmong : List ℕ → Header → List ℕ → Header → Type 0
RulesAmong b h d k = (r : ℕ) → r < h.sizes.rules → (e : ℕ) × (e < k.sizes.rules) × (rule_in b h r ≡ rule_in d k e)

-- The bytes b, with header h, are a docket of version 2 that passes tests 1 to 8.
pub record SoundVersion2 (b : List ℕ) (h : Header) : Type 0 where
  pub shape : SoundShape b h
  pub version : h.sizes.version ≡ 2

-- Of n rules, rule e + 1 is the first that does not come after the one before it.
pub record FirstNotAfter (n : ℕ) (rules : List ℕ) (e : ℕ) : Type 0 where
  pub within : suc e < n
  pub not_after : rule_before (rule_of rules e) (rule_of rules (suc e)) ≡ false
  pub earlier_after : (r : ℕ) → r < e → rule_before (rule_of rules r) (rule_of rules (suc r)) ≡ true

-- Tests 1 to 7 of the bytes b with header h, which are tried before 14.
abbrev pub earlier_tests : List ℕ → Header → List Test
earlier_tests b h = take 7 (shape_tests b h)

-- Rules x and y are equal in all four states.
abbrev pub SameStates : Rule → Rule → Type 0
SameStates x y = (x.p ≡ y.p) × (x.q ≡ y.q) × (x.p2 ≡ y.p2) × (x.q2 ≡ y.q2)

-- The claims about the order of rules.
pub record OfOrder : Type 0 where
  -- It is the library's lexicographic order of the numbers layer, p, q, p', q'.
  pub before_is : (x y : Rule) → (rule_before x y ≡ true) ↔ Lex ◌<◌ (rule_key x) (rule_key y)
  -- It is strict, and of two different rules one comes before the other.
  pub irreflexive : (x : Rule) → rule_before x x ≡ false
  pub transitive : (x y z : Rule) → rule_before x y ≡ true → rule_before y z ≡ true → rule_before x z ≡ true
  pub trichotomous : (x y : Rule) → (x ≡ y) ⊎ (rule_before x y ≡ true) ⊎ (rule_before y x ≡ true)
  -- In a docket of version 2 that passes tests 1 to 8 every rule comes after all earlier ones, not only after its neighbour.
  pub in_order : (b : List ℕ) (h : Header) → SoundVersion2 b h → (e r : ℕ) → e < r → r < h.sizes.rules
      → rule_before (rule_in b h e) (rule_in b h r) ≡ true
  -- So the rule that a run uses has the lowest number of all rules that can act, whatever their layers.
  pub run_uses : (b : List ℕ) (h : Header) → SoundVersion2 b h → (c : List ℕ) (r : ℕ) → Uses (protocol_in b h) (layers_in b h) c r
      → (e : ℕ) → e < r → enabled (protocol_in b h) c e ≡ false
  -- Two such dockets that have the same rules, with the same layers, have the same rules section, byte for byte.
  pub one_order : (b d : List ℕ) (h k : Header) → SoundVersion2 b h → SoundVersion2 d k → RulesAmong b h d k → RulesAmong d k b h
      → (sections_of b h).rules ≡ (sections_of d k).rules
  -- Tests 1 to 8 say 14 just where tests 1 to 7 pass and the version is 2, at the first rule that does not come after the one
  -- before it; and the check says it just where they do.
  pub refusal_14 : (b : List ℕ) (k : ℕ) → let h = header_of b in
      (shape_of b ≡ Err (refusal 14 k))
      ↔ (Passes (earlier_tests b h) × (h.sizes.version ≡ 2) × ((e : ℕ) × (k ≡ suc e) × FirstNotAfter h.sizes.rules (sections_of b h).rules e))
  pub check_14 : (b : List ℕ) (k : ℕ) → (check_of b ≡ Err (refusal 14 k)) ↔ (shape_of b ≡ Err (refusal 14 k))
  -- Where tests 1 to 6 pass and a rule is equal to an earlier one in all four states, whatever the layers, 7 is said.
  pub equal_is_7 : (b : List ℕ) → let h = header_of b in
      Passes (take 6 (shape_tests b h)) → (e r : ℕ) → e < r → r < h.sizes.rules → SameStates (rule_in b h e) (rule_in b h r)
      → (k : ℕ) × (shape_of b ≡ Err (refusal 7 k))
  -- Of any rules there is a first that does not come after the one before it, or they stand in order.
  pub in_order_or_not : (n : ℕ) (rules : List ℕ) → InOrder n rules ⊎ ((e : ℕ) × FirstNotAfter n rules e)
