-- The remainder rule, the ground of kind 7 (document 02, Jobs 2 and 4): in natural numbers, as trees use it, and below in
-- signed numbers, word by word. That the two are one is proved (Theorems, remainder_is).
-- A weight y is biased: w = y + 10,000; the sum of two is biased by 20,000. So y is 0 modulo m just when w and its bias
-- are the same modulo m.
-- A difference of natural numbers is 0 where it would be negative, so of w - b and b - w one is 0: the sum over the ends is
-- excesses - deficits, and what is taken off it is extras - spares. So it is 0 modulo m just when excesses + spares and
-- deficits + extras are the same modulo m.
use Rattle.std.specs.Prelude.{◌≡◌, Bool, true, false, not, cond, ◌&&◌, ◌||◌, ◌⊎◌, ℕ, ◌+◌, ◌-◌, ◌*◌, ◌%◌, ◌≤◌, ◌<◌, eqb, ℤ, pos, ◌+ℤ◌, ◌-ℤ◌, ◌*ℤ◌}
use Rattle.theory.specs.Bool.{bit}
use Rattle.theory.specs.Below.{all_below}
use Rattle.theory.specs.Protocol.{Protocol, only_fixed}
use Rattle.theory.specs.Facts.{Facts}
use Rattle.theory.specs.Leaf.{extra, spare, total, signed_sum}

-- Whether a and b are the same modulo m.
unfoldable pub congruent : ℕ → ℕ → ℕ → Bool
congruent m a b = eqb (a % m) (b % m)

-- Whether state s, not absent at end k, is known to hold exactly one agent there: it is present, and at most one.
unfoldable pub exactly_one : Facts → ℕ → ℕ → Bool
exactly_one F k s = not (F.absent k s) && F.present k s && F.at_most_one k s

module _ (F : Facts) where
  -- What a weight w of 0 or more, biased by b, adds to the sum where state s is known to hold exactly one agent at end k.
  unfoldable pub excess : ℕ → ℕ → (ℕ → ℕ) → ℕ → ℕ
  excess k b w s = bit (exactly_one F k s) * (w s - b)

  -- What a negative weight takes off the sum there.
  unfoldable pub deficit : ℕ → ℕ → (ℕ → ℕ) → ℕ → ℕ
  deficit k b w s = bit (exactly_one F k s) * (b - w s)

-- How many agents state s, not absent at the start, is known to hold there: its fixed ones, where it is no input.
unfoldable pub known : Protocol → Facts → ℕ → ℕ
known P F s = bit (not (F.absent 0 s) && only_fixed P s) * P.fixed s

module _ (P : Protocol) (m : ℕ) where
  -- For every rule not unused, the after and before pairs have the same weight modulo m.
  unfoldable pub conserved : (ℕ → Bool) → (ℕ → ℕ) → Bool
  conserved unused w = all_below P.rules (λ r. unused r || congruent m (w (P.p' r) + w (P.q' r)) (w (P.p r) + w (P.q r)))

  module _ (F : Facts) where
    -- For every state not absent at the start, the weight w, biased by b, is 0 modulo m, unless the state is no input and has
    -- fixed agents.
    unfoldable pub start_vanishes : ℕ → (ℕ → ℕ) → Bool
    start_vanishes b w = all_below P.states (λ s. F.absent 0 s || (only_fixed P s || congruent m (w s) b))

    -- Every state not absent at end k has a weight of 0 modulo m, or is known to hold exactly one agent.
    unfoldable pub end_vanishes : ℕ → ℕ → (ℕ → ℕ) → Bool
    end_vanishes k b w = all_below P.states (λ s. F.absent k s || (congruent m (w s) b || exactly_one F k s))

    -- The remainder rule, w k s being the biased weight of state s at end k.
    unfoldable pub remainder_closes : (ℕ → ℕ → ℕ) → Bool
    remainder_closes w =
        conserved (F.unused 1) (w 1)
        && conserved (F.unused 2) (w 2)
        && start_vanishes 20000 (λ s. w 1 s + w 2 s)
        && end_vanishes 1 10000 (w 1)
        && end_vanishes 2 10000 (w 2)
        && not (congruent m
        (total P (excess F 1 10000 (w 1)) + total P (excess F 2 10000 (w 2)) + total P (spare (known P F) 20000 (λ s. w 1 s + w 2 s)))
        (total P (deficit F 1 10000 (w 1)) + total P (deficit F 2 10000 (w 2)) + total P (extra (known P F) 20000 (λ s. w 1 s + w 2 s))))

-- ---- The remainder rule in signed numbers, word by word as document 02 has it

-- a and b are the same modulo m: a - b is a multiple of m.
abbrev pub SameModulo : ℕ → ℤ → ℤ → Type 0
SameModulo m a b = (x : ℤ) × (a -ℤ b ≡ pos m *ℤ x)

-- y k s is the weight of state s at end k.
module _ (P : Protocol) (F : Facts) (y : ℕ → ℕ → ℤ) where
  -- The weights of the states known to hold exactly one agent at end k, summed. An absent state joins nothing.
  unfoldable pub exact_sum : ℕ → ℤ
  exact_sum k = signed_sum P.states (λ s. cond (exactly_one F k s) (y k s) (pos 0))

  -- What is taken off the sum: of the states that are no inputs and not absent at the start, their fixed agents times y1 + y2.
  unfoldable pub fixed_sum : ℤ
  fixed_sum = signed_sum P.states (λ s. cond (not (F.absent 0 s) && not (P.input s)) (pos (P.fixed s) *ℤ (y 1 s +ℤ y 2 s)) (pos 0))

  -- The remainder rule, m being the modulus.
  pub record RemainderRule (m : ℕ) : Type 0 where
    -- For every rule not unused in run k, the after and before pairs have the same yk, modulo m.
    pub rules : (k : ℕ) → 1 ≤ k → k ≤ 2 → (r : ℕ) → r < P.rules → F.unused k r ≡ false
        → SameModulo m (y k (P.p' r) +ℤ y k (P.q' r)) (y k (P.p r) +ℤ y k (P.q r))
    -- For every state not absent at the start, y1 + y2 is 0 modulo m, if the state is an input or has no fixed agents.
    pub start : (s : ℕ) → s < P.states → F.absent 0 s ≡ false → (P.input s ≡ true) ⊎ (P.fixed s ≡ 0) → SameModulo m (y 1 s +ℤ y 2 s) (pos 0)
    -- For each end k, every state not absent has a yk of 0 modulo m, or is known to hold exactly one agent.
    pub ends : (k : ℕ) → 1 ≤ k → k ≤ 2 → (s : ℕ) → s < P.states → F.absent k s ≡ false
        → SameModulo m (y k s) (pos 0) ⊎ (exactly_one F k s ≡ true)
    -- The weights of the latter, summed over both ends, less what is taken off, are not 0 modulo m.
    pub sums : SameModulo m (exact_sum 1 +ℤ exact_sum 2 -ℤ fixed_sum) (pos 0) → ⊥
