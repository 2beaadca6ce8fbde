-- The leaf rule of document 01, "The tree", with the fixed agents of document 02, Job 4: in natural numbers, as trees use
-- it, and below in signed numbers, word by word. That the two are one is proved (Theorems, leaf_is).
-- A weight y is biased: w = y + 10,000; the sum of two is biased by 20,000. A difference of natural numbers is 0 where it
-- would be negative, so of w - b and b - w one is 0.
-- The lower sum is surpluses - shortfalls, the upper sum is extras - spares: the lower exceeds the upper just when
-- shortfalls + extras < surpluses + spares.
use Rattle.std.specs.Prelude.{◌≡◌, Bool, true, false, not, cond, ◌&&◌, ◌||◌, ◌⊎◌, ℕ, zero, suc, ◌+◌, ◌-◌, ◌*◌, ◌≤◌, ◌<◌, leb, ltb, ℤ, pos, ◌+ℤ◌, ◌-ℤ◌, ◌*ℤ◌, ◌≤ℤ◌, ◌<ℤ◌}
use Rattle.std.specs.Int.Signed.{lt_z}
use Rattle.theory.specs.Bool.{bit}
use Rattle.theory.specs.Below.{all_below, sum_below}
use Rattle.theory.specs.Protocol.{Protocol, only_fixed}
use Rattle.theory.specs.Facts.{Facts}

-- What the weight w of state s, biased by b, adds to a sum that it joins n s times, where it is above 0.
unfoldable pub extra : (ℕ → ℕ) → ℕ → (ℕ → ℕ) → ℕ → ℕ
extra n b w s = n s * (w s - b)

-- What it takes off that sum, where it is below 0.
unfoldable pub spare : (ℕ → ℕ) → ℕ → (ℕ → ℕ) → ℕ → ℕ
spare n b w s = n s * (b - w s)

module _ (P : Protocol) where
  -- The sum of f over the states.
  abbrev pub total : (ℕ → ℕ) → ℕ
  total f = sum_below P.states f

  -- For every rule not unused, the weight of the after pair is at most that of the before pair.
  unfoldable pub non_increasing : (ℕ → Bool) → (ℕ → ℕ) → Bool
  non_increasing unused w = all_below P.rules (λ r. unused r || leb (w (P.p' r) + w (P.q' r)) (w (P.p r) + w (P.q r)))

  module _ (F : Facts) where
    -- For every state not absent at the start, the weight w, biased by b, is at most 0; where the state is no input and has
    -- fixed agents the sign is free.
    unfoldable pub start_fits : ℕ → (ℕ → ℕ) → Bool
    start_fits b w = all_below P.states (λ s. F.absent 0 s || (only_fixed P s || leb (w s) b))

    -- How many times state s, unless absent at the start, joins the upper sum: once for each of its fixed agents; where it
    -- has none, once if it is present there.
    unfoldable pub times : ℕ → ℕ
    times s = cond (ltb 0 (P.fixed s)) (bit (not (F.absent 0 s)) * P.fixed s) (bit (not (F.absent 0 s) && F.present 0 s))

    -- For every state not absent at end k, the weight is 0 or more, or there is at most one agent.
    unfoldable pub end_fits : ℕ → ℕ → (ℕ → ℕ) → Bool
    end_fits k b w = all_below P.states (λ s. F.absent k s || (leb b (w s) || F.at_most_one k s))

    -- What a weight of 0 or more adds to the lower sum where state s is present at end k and not absent.
    unfoldable pub surplus : ℕ → ℕ → (ℕ → ℕ) → ℕ → ℕ
    surplus k b w s = bit (not (F.absent k s) && F.present k s) * (w s - b)

    -- What a negative weight takes off the lower sum where state s is not absent at end k.
    unfoldable pub shortfall : ℕ → ℕ → (ℕ → ℕ) → ℕ → ℕ
    shortfall k b w s = bit (not (F.absent k s)) * (b - w s)

    -- The leaf rule, w k s being the biased weight of state s at end k.
    unfoldable pub leaf_closes : (ℕ → ℕ → ℕ) → Bool
    leaf_closes w =
        non_increasing (F.unused 1) (w 1)
        && non_increasing (F.unused 2) (w 2)
        && start_fits 20000 (λ s. w 1 s + w 2 s)
        && end_fits 1 10000 (w 1)
        && end_fits 2 10000 (w 2)
        && ltb
        (total (shortfall 1 10000 (w 1)) + total (shortfall 2 10000 (w 2)) + total (extra times 20000 (λ s. w 1 s + w 2 s)))
        (total (surplus 1 10000 (w 1)) + total (surplus 2 10000 (w 2)) + total (spare times 20000 (λ s. w 1 s + w 2 s)))

-- ---- The leaf rule in signed numbers, word by word as the documents have it

-- The signed weight y of a biased one.
abbrev pub signed : ℕ → ℤ
signed w = pos w -ℤ pos 10000

-- The sum f 0 + .. + f (n - 1).
unfoldable pub signed_sum : ℕ → (ℕ → ℤ) → ℤ
signed_sum zero f = pos 0
signed_sum (suc n) f = signed_sum n f +ℤ f n

module _ (P : Protocol) (F : Facts) where
  -- The upper sum, v s being y1 + y2 of state s, of the states not absent at the start: where a state has fixed agents their
  -- number times v; else v where the state is present.
  unfoldable pub upper_sum : (ℕ → ℤ) → ℤ
  upper_sum v =
      signed_sum P.states
      (λ s.
      cond (F.absent 0 s) (pos 0)
      (cond (ltb 0 (P.fixed s)) (pos (P.fixed s) *ℤ v s) (cond (F.present 0 s) (v s) (pos 0))))

  -- What end k adds to the lower sum, y s being the weight of state s there: of the states not absent, a weight of 0 or more
  -- where the state is present, and a negative weight.
  unfoldable pub lower_sum : ℕ → (ℕ → ℤ) → ℤ
  lower_sum k y = signed_sum P.states (λ s. cond (not (F.absent k s) && (F.present k s || lt_z (y s) (pos 0))) (y s) (pos 0))

  -- The leaf rule, y k s being the weight of state s at end k.
  pub record LeafRule (y : ℕ → ℕ → ℤ) : Type 0 where
    -- For every rule not unused in run k, yk of the after pair is at most yk of the before pair.
    pub rules : (k : ℕ) → 1 ≤ k → k ≤ 2 → (r : ℕ) → r < P.rules → F.unused k r ≡ false → (y k (P.p' r) +ℤ y k (P.q' r)) ≤ℤ (y k (P.p r) +ℤ y k (P.q r))
    -- For every state not absent at the start, y1 + y2 is at most 0, if the state is an input or has no fixed agents.
    pub start : (s : ℕ) → s < P.states → F.absent 0 s ≡ false → (P.input s ≡ true) ⊎ (P.fixed s ≡ 0) → (y 1 s +ℤ y 2 s) ≤ℤ pos 0
    -- For each end k and each state not absent there, a negative weight needs at most one there.
    pub ends : (k : ℕ) → 1 ≤ k → k ≤ 2 → (s : ℕ) → s < P.states → F.absent k s ≡ false → y k s <ℤ pos 0 → F.at_most_one k s ≡ true
    -- The lower sum exceeds the upper sum.
    pub sums : upper_sum (λ s. y 1 s +ℤ y 2 s) <ℤ (lower_sum 1 (y 1) +ℤ lower_sum 2 (y 2))
