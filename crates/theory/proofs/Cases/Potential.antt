-- Cases of potential reachability: what it forbids.
use Rattle.std.specs.Prelude.{◌≡◌, refl, Bool, true, List, [], ◌∷◌, ℕ, ◌+◌, ◌*◌, ◌%◌, eqb}
use Rattle.std.proofs.Common.{true≢false, arith}
use Rattle.theory.specs.Below.{all_below, sum_below}
use Rattle.theory.specs.Protocol.{Protocol, count, pre, post}
use Rattle.theory.proofs.Cases.Protocol.{column, broadcast, majority}
use Rattle.theory.specs.Potential.{Potential}
use Rattle.theory.proofs.Unfold.{meeting, walking}

-- Whether the flow equation holds in every state.
abbrev balanced : Protocol → (ℕ → ℕ) → List ℕ → List ℕ → Bool
balanced P x c d =
    all_below P.states (λ s. eqb (count d s + sum_below P.rules (λ r. x r * pre P r s)) (count c s + sum_below P.rules (λ r. x r * post P r s)))

-- Examples 4.6 and 4.10: the flow equations let A B become a a by AB to ab and Ab to Aa, once each; the trap of A and b
-- forbids it.
-- They let 0 0 become 0 1 by 0 1 to 1 1; the siphon of 1 forbids it.
pub forbidden : (balanced majority (column (1 ∷ 1 ∷ [])) (1 ∷ 1 ∷ 0 ∷ 0 ∷ []) (0 ∷ 0 ∷ 2 ∷ 0 ∷ []) ≡ true)
    × (Potential majority (column (1 ∷ 1 ∷ [])) (1 ∷ 1 ∷ 0 ∷ 0 ∷ []) (0 ∷ 0 ∷ 2 ∷ 0 ∷ []) → ⊥)
    × (balanced broadcast (λ _. 1) (2 ∷ 0 ∷ []) (1 ∷ 1 ∷ []) ≡ true)
    × (Potential broadcast (λ _. 1) (2 ∷ 0 ∷ []) (1 ∷ 1 ∷ []) → ⊥)
unfolding walking meeting
forbidden = (
  refl,
  λ h. true≢false (h.traps (λ s. eqb (s % 3) 0) refl refl 0 (omega arith) (omega arith)),
  refl,
  λ h. true≢false (h.siphons (eqb 1) refl refl 0 (omega arith) (omega arith)),
)
