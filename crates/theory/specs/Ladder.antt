-- The ladder of document 01, layers L with weights w: lowering, handover, layers that are quiet, layered lists, spreads
-- and the rank of a configuration (the paper's Section 4.1).
use Rattle.std.specs.Prelude.{◌≡◌, Bool, true, false, ◌&&◌, List, [], ◌∷◌, ℕ, suc, ◌+◌, ◌-◌, ◌*◌, ◌<◌, length, ltb, leb, eqb}
use Rattle.theory.specs.Bool.{imp}
use Rattle.theory.specs.Below.{all_below, any_below, first_below, sum_below, least, greatest}
use Rattle.theory.specs.Weigh.{weigh}
use Rattle.theory.specs.Protocol.{Protocol, WellFormed, size, pre, post, enabled, fire, terminal, fires, tried, EachMeeting}

-- Layers of the rules: how many there are, and which one rule r is of. Layer 0 is the lowest.
pub record Layers : Type 0 where
  pub count : ℕ
  pub of : ℕ → ℕ

-- Whether rule u is of a lower layer than rule s.
unfoldable pub is_lower : Layers → ℕ → ℕ → Bool
is_lower L u s = ltb (L.of u) (L.of s)

module _ (P : Protocol) where
  -- The pre of the sequence s then u: the before pair of s, and what the before pair of u has beyond the after pair of s.
  -- It is the smallest configuration in which s is enabled and u is enabled after s.
  abbrev pub pre_sequence : ℕ → ℕ → ℕ → ℕ
  pre_sequence s u i = pre P s i + (pre P u i - post P s i)

  -- Whether the before pair of v is inside the pre of the sequence s then u, state by state in number.
  unfoldable pub fits : ℕ → ℕ → ℕ → Bool
  fits s u v = all_below P.states (λ i. leb (pre P v i) (pre_sequence s u i))

module _ (P : Protocol) (L : Layers) where
  -- The layers are an ordered partition of the rules (Section 4): every rule is of one of them (test 6), and none is
  -- empty (test 8).
  pub record OrderedPartition : Type 0 where
    pub covers : (r : ℕ) → r < P.rules → L.of r < L.count
    pub non_empty : (k : ℕ) → k < L.count → (r : ℕ) × (r < P.rules) × (L.of r ≡ k)

  -- Handover at rule s: for every rule u of a lower layer some rule v of a lower layer fits.
  unfoldable pub handover_at : ℕ → Bool
  handover_at s = all_below P.rules (λ u. imp (is_lower L u s) (any_below P.rules (λ v. is_lower L v s && fits P s u v)))

  -- The handover test (test 10).
  unfoldable pub handover : Bool
  handover = all_below P.rules handover_at

  -- Whether rule r is of layer k and is enabled.
  unfoldable pub enabled_in : List ℕ → ℕ → ℕ → Bool
  enabled_in c k r = eqb (L.of r) k && enabled P c r

  -- Whether layer k has an enabled rule; where it has none the layer is quiet.
  unfoldable pub active : List ℕ → ℕ → Bool
  active c k = any_below P.rules (enabled_in c k)

  -- Every layer below k is quiet (the paper: terminal for the rules of those layers).
  abbrev pub QuietBelow : ℕ → List ℕ → Type 0
  QuietBelow k c = (j : ℕ) → j < k → active c j ≡ false

  -- Configuration c breaks the handover at rule s: no layer below that of s has an enabled rule, s is enabled, and after
  -- s a layer below has one.
  pub record Breaks (c : List ℕ) (s : ℕ) : Type 0 where
    pub quiet : QuietBelow (L.of s) c
    pub on : enabled P c s ≡ true
    pub then_active : (j : ℕ) × (j < L.of s) × (active (fire P c s) j ≡ true)

  -- Some configuration, of any size, breaks the handover at rule s.
  abbrev pub Broken : ℕ → Type 0
  Broken s = (c : List ℕ) × (length c ≡ P.states) × Breaks c s

  -- The lowest layer that has an enabled rule; L.count where there is none.
  unfoldable pub lowest : List ℕ → ℕ
  lowest c = first_below L.count (active c)

  -- A list of rule numbers tried from c is layered: each meeting is by a rule of the lowest layer that has an enabled
  -- rule just before it.
  unfoldable pub layered : List ℕ → List ℕ → Bool
  layered c [] = true
  layered c (r ∷ rs) = imp (fires P c r) (eqb (L.of r) (lowest c)) && layered (tried P c r) rs

  -- A list of rule numbers tried from c is of layer k alone: each meeting is by a rule of layer k.
  abbrev pub Alone : ℕ → List ℕ → List ℕ → Type 0
  Alone k c rs = EachMeeting P (λ _ r. L.of r ≡ k) c rs

-- A layer's spread is its greatest weight less its least, v s being its weight of state s < n.
unfoldable pub spread : ℕ → (ℕ → ℕ) → ℕ
spread n v = greatest n v - least n v

-- w k s is layer k's weight of state s.
module _ (P : Protocol) (L : Layers) (w : ℕ → ℕ → ℕ) where
  -- Lowering at rule r: its layer's weights of p and q together exceed those of p' and q'.
  unfoldable pub lowers_at : ℕ → Bool
  lowers_at r = let k = L.of r in ltb (w k (P.p' r) + w k (P.q' r)) (w k (P.p r) + w k (P.q r))

  -- The lowering test (test 9).
  unfoldable pub lowering : Bool
  lowering = all_below P.rules lowers_at

  -- The ladder of a well-formed protocol passes: tests 6, 8, 9 and 10. That weights have a limit (test 8) is not needed.
  pub record Laddered : Type 0 where
    pub formed : WellFormed P
    pub partition : OrderedPartition P L
    pub lowering_passes : lowering ≡ true
    pub handover_passes : handover P L ≡ true

  -- The sum of all spreads; size times it is the rest bound.
  unfoldable pub spreads : ℕ
  spreads = sum_below L.count (λ k. spread P.states (w k))

  -- The sum of the spreads of the layers above i.
  unfoldable pub spreads_above : ℕ → ℕ
  spreads_above i = sum_below (L.count - suc i) (λ k. spread P.states (w (suc i + k)))

  -- The rank of c where layer i is the lowest that has an enabled rule: the weight of c in layer i less size times that
  -- layer's least weight, plus size times the spreads of the layers above i.
  unfoldable pub rank_at : ℕ → List ℕ → ℕ
  rank_at i c = (weigh (w i) c - size c * least P.states (w i)) + size c * spreads_above i

  -- The rank of a configuration (document 02, Job 13: the figure): 0 where it is terminal.
  unfoldable pub rank : List ℕ → ℕ
  rank c = elim (terminal P c) [ true ↦ 0 | false ↦ rank_at (lowest P L c) c ]
