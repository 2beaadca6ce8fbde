-- The leaf rule and the remainder rule over the bytes of a docket, in the parts in which the code goes through them.
use Rattle.std.specs.Prelude.{◌≡◌, Bool, ◌||◌, List, [], ℕ, ◌+◌, ◌-◌, ◌%◌, ◌<◌}
use Rattle.theory.specs.Bool.{member}
use Rattle.theory.specs.Below.{all_below}
use Rattle.format.specs.Format.{rule_p, rule_q, rule_p', rule_q', rule_of, end_weight, protocol_of}
use Rattle.format.specs.declared.Rule.{Rule}
use Rattle.format.specs.declared.Sizes.{Sizes}
use Rattle.share.specs.Code.{relates_by, fixed_in, share_by}
use Rattle.share.specs.declared.Closing.{Closing}
use Rattle.share.specs.declared.Fixed.{Fixed}
use Rattle.share.specs.declared.Known.{Known}
use Rattle.share.specs.declared.Share.{Share}
pub mod Laws

-- x is rule r, and its states are bytes.
pub record RuleAt (rules : List ℕ) (r : ℕ) (x : Rule) : Type 0 where
  pub is : x ≡ rule_of rules r
  pub p_lt : x.p < 256
  pub q_lt : x.q < 256
  pub p'_lt : x.p2 < 256
  pub q'_lt : x.q2 < 256

-- The weights at end e + 1 of the pairs before and after rule r.
unfoldable pub weight_before : Sizes → List ℕ → List ℕ → ℕ → ℕ → ℕ → ℕ
weight_before z rules leaves l e r = end_weight z leaves l e (rule_p rules r) + end_weight z leaves l e (rule_q rules r)

unfoldable pub weight_after : Sizes → List ℕ → List ℕ → ℕ → ℕ → ℕ → ℕ
weight_after z rules leaves l e r = end_weight z leaves l e (rule_p' rules r) + end_weight z leaves l e (rule_q' rules r)

-- Rule r keeps the weight of end e + 1: that of the after pair is at most that of the before pair; by remainders, the two are
-- the same modulo m.
unfoldable pub keeps : Closing → Sizes → List ℕ → List ℕ → ℕ → ℕ → ℕ → Bool
keeps by z rules leaves l e r = relates_by by (weight_after z rules leaves l e r) (weight_before z rules leaves l e r)

-- Rule r is unused, u being the unused ones of the 64 rules of its word, or keeps the weight.
unfoldable pub keeps_in : Closing → ℕ → Sizes → List ℕ → List ℕ → ℕ → ℕ → ℕ → Bool
keeps_in by u z rules leaves l e r = member u (r % 64) || keeps by z rules leaves l e r

-- All numbers from r on and below n pass f.
unfoldable pub all_from : ℕ → ℕ → (ℕ → Bool) → Bool
all_from r n f = all_below (n - r) (λ k. f (r + k))

-- The fixed agents of state s. No rules are looked at.
abbrev pub fixed_at : Sizes → List ℕ → ℕ → Fixed
fixed_at z states = fixed_in (protocol_of z states [])

-- The share of state s in leaf l, by what is known at the start, at end 1 and at end 2.
unfoldable pub share_of : Closing → Sizes → List ℕ → List ℕ → ℕ → Known → Known → Known → ℕ → Share
share_of by z states leaves l a b c s = share_by by (fixed_at z states s) a b c s (end_weight z leaves l 0 s) (end_weight z leaves l 1 s)
