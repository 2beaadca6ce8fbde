-- What the functions of the lowering and handover tests answer, beside theory's own definitions.
use Rattle.std.specs.Prelude.{Bool, false, cond, not, ◌&&◌, List, ℕ, ◌+◌, ◌*◌, ◌<◌, leb, ltb, eqb, length, Option, Some, None}
use Rattle.theory.specs.Bool.{imp, bit}
use Rattle.theory.specs.Below.{any_below}
use Rattle.format.specs.Format.{rule_p, rule_q, rule_layer, rule_of}
use Rattle.format.specs.declared.Rule.{Rule}
use Rattle.ladder.specs.declared.PreSequence.{PreSequence}
pub mod Laws

-- How often the state x stands in the pair a, b.
abbrev pub in_pair : ℕ → ℕ → ℕ → ℕ
in_pair a b x = bit (eqb a x) + bit (eqb b x)

-- The state x, if it stands fewer than k times in the pair a, b.
abbrev pub beyond_of : ℕ → ℕ → ℕ → ℕ → Option ℕ
beyond_of a b x k = cond (ltb (in_pair a b x) k) (Some x) None

-- The pre-sequence of the rules s and u. Of the before pair of u, p is left where it is not in the after pair of s, and q
-- where it stands there less often than in the before pair of u.
abbrev pub pre_sequence_of : Rule → Rule → PreSequence
pre_sequence_of s u =
    record {
      first = s.p;
      second = s.q;
      third = beyond_of s.p2 s.q2 u.p 1;
      fourth = beyond_of s.p2 s.q2 u.q (in_pair u.p u.q u.q);
    }

-- The state x is there, and is the one given.
abbrev pub is_there : Option ℕ → ℕ → Bool
is_there (Some y) x = eqb y x
is_there None x = false

-- How many agents of state x j has.
abbrev pub held_of : PreSequence → ℕ → ℕ
held_of j x = in_pair j.first j.second x + (bit (is_there j.third x) + bit (is_there j.fourth x))

-- j has as many agents of state x as the pair p, q.
abbrev pub covers_of : PreSequence → ℕ → ℕ → ℕ → Bool
covers_of j p q x = leb (in_pair p q x) (held_of j x)

-- Rule v is of a layer below l, and j covers its before pair: it is enough to look at the two states of the pair.
unfoldable pub fits_in : List ℕ → ℕ → PreSequence → ℕ → Bool
fits_in rules l j v =
    let p = rule_p rules v in
    let q = rule_q rules v in
    ltb (rule_layer rules v) l && (covers_of j p q p && covers_of j p q q)

-- Rule u is of no layer below that of s, or one of n rules is, with its before pair covered by the pre-sequence of s and u.
unfoldable pub covered_in : List ℕ → ℕ → Rule → ℕ → Bool
covered_in rules n s u =
    imp (ltb (rule_layer rules u) s.layer) (any_below n (fits_in rules s.layer (pre_sequence_of s (rule_of rules u))))

-- The state given, if it is below 64, and no other.
abbrev pub single_in : Option ℕ → ℕ → Bool
single_in a x = ltb x 64 && is_there a x

-- The states below 64 of which j has an agent.
unfoldable pub states_in : PreSequence → ℕ → Bool
states_in j x = ltb x 64 && ltb 0 (held_of j x)

-- Rule v is inside the section, and a word holds the states of its before pair.
pub record SoundPair (rules : List ℕ) (v : ℕ) : Type 0 where
  pub whole : 5 * v + 4 < length rules
  pub p_lt : rule_p rules v < 64
  pub q_lt : rule_q rules v < 64
