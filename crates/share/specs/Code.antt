-- The rule by which a leaf closes, by sums or by remainders, in the parts in which the code goes through it.
use Rattle.std.specs.Prelude.{◌≡◌, Bool, not, cond, ◌&&◌, ◌||◌, ℕ, ◌+◌, ◌-◌, ◌*◌, ◌≤◌, leb, ltb}
use Rattle.theory.specs.Bool.{member, bit}
use Rattle.theory.specs.Protocol.{Protocol, only_fixed}
use Rattle.theory.specs.Facts.{Facts}
use Rattle.theory.specs.Leaf.{non_increasing, leaf_closes}
use Rattle.theory.specs.Remainder.{congruent, conserved, remainder_closes}
use Rattle.share.specs.declared.Closing.{Closing}
use Rattle.share.specs.declared.Closing.TheVariants.{BySums, ByRemainders}
use Rattle.share.specs.declared.Fixed.{Fixed}
use Rattle.share.specs.declared.Known.{Known}
use Rattle.share.specs.declared.Share.{Share}
pub mod Laws

-- The leaf rule, or the remainder rule.
unfoldable pub closes_by : Protocol → Closing → Facts → (ℕ → ℕ → ℕ) → Bool
closes_by P BySums F w = leaf_closes P F w
closes_by P (ByRemainders m) F w = remainder_closes P m F w

-- Its test of the rules.
unfoldable pub kept_by : Protocol → Closing → (ℕ → Bool) → (ℕ → ℕ) → Bool
kept_by P BySums unused w = non_increasing P unused w
kept_by P (ByRemainders m) unused w = conserved P m unused w

-- a is at most b; by remainders, they are the same modulo m.
unfoldable pub relates_by : Closing → ℕ → ℕ → Bool
relates_by BySums a b = leb a b
relates_by (ByRemainders m) a b = congruent m a b

-- The words of w are the facts of the states at party k.
pub record KnownAt (F : Facts) (k : ℕ) (w : Known) : Type 0 where
  pub absent : member w.absent ≡ F.absent k
  pub present : member w.present ≡ (λ s. not (F.absent k s) && F.present k s)
  pub at_most_one : member w.at_most_one ≡ F.at_most_one k

-- The fixed agents of state s.
abbrev pub fixed_in : Protocol → ℕ → Fixed
fixed_in P s = record { agents = P.fixed s; only = only_fixed P s }

-- The share of a state that joins a sum n times, y being what joins, plus b.
abbrev pub joined_of : Bool → ℕ → ℕ → ℕ → Share
joined_of t n b y = record { allowed = t; gains = n * (b - y); losses = n * (y - b) }

-- How many times state s joins the upper sum.
unfoldable pub times_of : Known → Fixed → ℕ → ℕ
times_of k f s = cond (ltb 0 f.agents) (bit (not (member k.absent s)) * f.agents) (bit (member k.present s))

-- How many agents state s is known to hold at the start: its fixed ones, where it is no input and not absent; else none.
unfoldable pub known_of : Known → Fixed → ℕ → ℕ
known_of k f s = bit (not (member k.absent s) && f.only) * f.agents

-- The share of state s at the start, by sums, y being what joins the upper sum, plus b.
unfoldable pub start_share : Known → Fixed → ℕ → ℕ → ℕ → Share
start_share k f s b y = joined_of (member k.absent s || (f.only || leb y b)) (times_of k f s) b y

-- The share of state s at an end, by sums, y being its weight there, plus 10,000.
unfoldable pub end_share : Known → ℕ → ℕ → Share
end_share k s y =
    record {
      allowed = member k.absent s || (leb 10000 y || member k.at_most_one s);
      gains = bit (member k.present s) * (y - 10000);
      losses = bit (not (member k.absent s)) * (10000 - y);
    }

-- The same by remainders.
unfoldable pub start_remainder : ℕ → Known → Fixed → ℕ → ℕ → Share
start_remainder m k f s y = joined_of (member k.absent s || (f.only || congruent m y 20000)) (known_of k f s) 20000 y

unfoldable pub end_remainder : ℕ → Known → ℕ → ℕ → Share
end_remainder m k s y =
    let one = member k.present s && member k.at_most_one s in
    record {
      allowed = member k.absent s || (congruent m y 10000 || one);
      gains = bit one * (y - 10000);
      losses = bit one * (10000 - y);
    }

-- Two shares together.
abbrev pub both_of : Share → Share → Share
both_of a b = record { allowed = a.allowed && b.allowed; gains = b.gains + a.gains; losses = b.losses + a.losses }

-- The shares at the start and at the two ends together.
abbrev pub sum_of : Share → Share → Share → Share
sum_of a b c =
    record {
      allowed = a.allowed && b.allowed && c.allowed;
      gains = b.gains + c.gains + a.gains;
      losses = b.losses + c.losses + a.losses;
    }

-- The share of state s, by its fixed agents and by what is known at the start, at end 1 and at end 2; v and w are its weights
-- at the ends, plus 10,000.
unfoldable pub share_by : Closing → Fixed → Known → Known → Known → ℕ → ℕ → ℕ → Share
share_by BySums f a b c s v w = sum_of (start_share a f s 20000 (v + w)) (end_share b s v) (end_share c s w)
share_by (ByRemainders m) f a b c s v w = sum_of (start_remainder m a f s (v + w)) (end_remainder m b s v) (end_remainder m c s w)

-- The numbers of a share are at most m.
pub record Few (m : ℕ) (x : Share) : Type 0 where
  pub gains : x.gains ≤ m
  pub losses : x.losses ≤ m

-- r is the share x, and its numbers are at most m.
pub record ShareIs (m : ℕ) (x r : Share) : Type 0 where
  pub is : r ≡ x
  pub gains_most : r.gains ≤ m
  pub losses_most : r.losses ≤ m
