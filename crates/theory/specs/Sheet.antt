-- Claim sheets (document 02, Job 10): which output the terminal configurations show, by a threshold on a weighed sum of the
-- start. In natural numbers, as trees use them, and below in signed numbers, word by word. That the two are one is proved
-- (Theorems, sheet_is).
-- The signed numbers are biased: a state's number is numbers s - 32,768, the limit c is limit - 2,147,483,648, a leaf's weight
-- is weights l s - 10,000.
use Rattle.std.specs.Prelude.{◌≡◌, Bool, true, false, ◌&&◌, List, ◌⊎◌, ℕ, ◌+◌, ◌-◌, ◌*◌, ◌<◌, ltb, ℤ, pos, ◌+ℤ◌, ◌-ℤ◌, ◌*ℤ◌, ◌≤ℤ◌, ◌<ℤ◌}
use Rattle.theory.specs.Protocol.{Protocol, count}
use Rattle.theory.specs.Facts.{Facts}
use Rattle.theory.specs.Leaf.{total, non_increasing, start_fits, times, extra, spare, end_fits, surplus, shortfall, signed_sum, upper_sum, lower_sum}
use Rattle.theory.specs.Tree.{Tree, Assumption, Walked, next, refused, tree_answer}
pub mod Claimed

-- The numbers of the states and the limit, the leaves with their multipliers, and the two trees, which share the leaves.
pub record Sheet : Type 0 where
  pub numbers : ℕ → ℕ
  pub limit : ℕ
  pub weights : ℕ → ℕ → ℕ
  pub multiplier : ℕ → ℕ
  pub first : Tree
  pub second : Tree

-- A threshold: the weighed sum of a configuration, by numbers that are biased by 32,768, is at least plus - minus.
pub record Threshold : Type 0 where
  pub numbers : ℕ → ℕ
  pub plus : ℕ
  pub minus : ℕ

-- What the first tree assumes: a sum of at least c.
unfoldable pub at_least : Sheet → Threshold
at_least Z = record { numbers = Z.numbers; plus = Z.limit; minus = 2147483648 }

-- What the second tree assumes: a sum of at most c - 1; so with every number negated it is at least 1 - c.
unfoldable pub at_most : Sheet → Threshold
at_most Z = record { numbers = λ s. 65536 - Z.numbers s; plus = 2147483649; minus = Z.limit }

module _ (P : Protocol) where
  -- The leaf rule of a sheet, w s being the biased weight of state s and k the multiplier. At the start y + k × a stands for
  -- y1 + y2, a being the threshold's number of the state; it is biased by 10,000 + k × 32,768. k times the threshold is taken
  -- off the upper sum.
  unfoldable pub sheet_closes : Threshold → Facts → (ℕ → ℕ) → ℕ → Bool
  sheet_closes B F w k =
      let b = 10000 + k * 32768 in
      let v : ℕ → ℕ = λ s. w s + k * B.numbers s in
      non_increasing P (F.unused 1) w
      && start_fits P F b v
      && end_fits P F 1 10000 w
      && ltb
      (total P (shortfall P F 1 10000 w) + total P (extra (times P F) b v) + k * B.minus)
      (total P (surplus P F 1 10000 w) + total P (spare (times P F) b v) + k * B.plus)

  -- What a tree of a sheet refutes: one run, from a start that reaches the threshold, ends with a state of output v. There is
  -- no kind 7.
  unfoldable pub counterexample : Sheet → Threshold → Bool → Assumption
  counterexample Z B v =
      record {
        runs = 1;
        assumed = λ _. v;
        closes = λ F l. sheet_closes B F (Z.weights l) (Z.multiplier l);
        moduli = λ _. false;
        closes_modulo = λ _ _ _. false;
      }

  -- The first tree assumes a sum of at least c and an end with a state of output 0, the second a sum of at most c - 1 and an end
  -- with a state of output 1.
  abbrev pub first_walk : Sheet → Walked
  first_walk Z = tree_answer P (counterexample Z (at_least Z) false) Z.first

  abbrev pub second_walk : Sheet → Walked
  second_walk Z = tree_answer P (counterexample Z (at_most Z) true) Z.second

  -- The walk of the first tree, then of the second, whose nodes are numbered on from the first's. The answer next means
  -- accepted: it is the number of all nodes.
  unfoldable pub sheet_answer : Sheet → Walked
  sheet_answer Z =
      elim (first_walk Z) [
        | next i ↦ elim (second_walk Z) [ next j ↦ next (Z.first.nodes + j) | refused n j ↦ refused n (Z.first.nodes + j) ]
        | refused n j ↦ refused n j
      ]

-- ---- The claim and the leaf rule in signed numbers, word by word as document 02 has them

-- The number a of state s, and the limit c.
abbrev pub number_of : Sheet → ℕ → ℤ
number_of Z s = pos (Z.numbers s) -ℤ pos 32768

abbrev pub limit_of : Sheet → ℤ
limit_of Z = pos Z.limit -ℤ pos 2147483648

module _ (P : Protocol) where
  -- The weighed sum of a configuration: each state's number times its count.
  unfoldable pub weighed_sum : Sheet → List ℕ → ℤ
  weighed_sum Z c = signed_sum P.states (λ s. pos (count c s) *ℤ number_of Z s)

  -- The leaf rule of document 01 for one run, y s being the weight of state s: v stands for y1 + y2, and upper is the upper sum.
  pub record SheetRule (F : Facts) (y v : ℕ → ℤ) (upper : ℤ) : Type 0 where
    -- For every rule not unused, y of the after pair is at most y of the before pair.
    pub rules : (r : ℕ) → r < P.rules → F.unused 1 r ≡ false → (y (P.p' r) +ℤ y (P.q' r)) ≤ℤ (y (P.p r) +ℤ y (P.q r))
    -- For every state not absent at the start, v is at most 0, if the state is an input or has no fixed agents.
    pub start : (s : ℕ) → s < P.states → F.absent 0 s ≡ false → (P.input s ≡ true) ⊎ (P.fixed s ≡ 0) → v s ≤ℤ pos 0
    -- For each state not absent at the end, a negative weight needs at most one there.
    pub ends : (s : ℕ) → s < P.states → F.absent 1 s ≡ false → y s <ℤ pos 0 → F.at_most_one 1 s ≡ true
    -- The lower sum exceeds the upper sum.
    pub sums : upper <ℤ lower_sum P F 1 y

  module _ (Z : Sheet) (F : Facts) (y : ℕ → ℤ) (k : ℕ) where
    -- In the first tree y + k × a stands for y1 + y2, and k × c is taken off the upper sum.
    abbrev pub FirstRule : Type 0
    FirstRule = let v : ℕ → ℤ = λ s. y s +ℤ pos k *ℤ number_of Z s in SheetRule F y v (upper_sum P F v -ℤ pos k *ℤ limit_of Z)

    -- In the second, y - k × a stands there, and k × (c - 1) is added.
    abbrev pub SecondRule : Type 0
    SecondRule = let v : ℕ → ℤ = λ s. y s -ℤ pos k *ℤ number_of Z s in SheetRule F y v (upper_sum P F v +ℤ pos k *ℤ (limit_of Z -ℤ pos 1))
