-- Potential reachability (the paper, Section 4.2): what flow, traps and siphons leave possible.
use Rattle.std.specs.Prelude.{◌≡◌, Bool, true, false, List, ℕ, ◌+◌, ◌*◌, ◌<◌, length, eqb}
use Rattle.theory.specs.Bool.{bit}
use Rattle.theory.specs.Below.{sum_below}
use Rattle.theory.specs.Weigh.{weigh}
use Rattle.theory.specs.Protocol.{Protocol, count, pre, post}
use Rattle.theory.specs.Tree.{takes, puts, is_trap, is_siphon}
pub mod Runs

-- How many agents are in the states of the set A (the paper: C(A)).
abbrev pub count_in : (ℕ → Bool) → List ℕ → ℕ
count_in A c = weigh (λ s. bit (A s)) c

module _ (P : Protocol) where
  -- Definition 4.9: the configuration d is potentially reachable from c through x, which says how often each rule fires.
  -- U is the set of the rules that fire.
  -- The paper has silent transitions besides, from a pair to itself; proofs/Potential/Silent proves that they make no difference.
  pub record Potential (x : ℕ → ℕ) (c d : List ℕ) : Type 0 where
    pub sized : length d ≡ P.states
    -- (a) The flow equation of every state.
    pub flow : (s : ℕ) → s < P.states → count d s + sum_below P.rules (λ r. x r * pre P r s) ≡ count c s + sum_below P.rules (λ r. x r * post P r s)
    -- (b) No rule of U puts into a U-trap that is empty at d.
    pub traps : (A : ℕ → Bool) → is_trap P (λ r. eqb (x r) 0) A ≡ true → count_in A d ≡ 0 → (r : ℕ) → r < P.rules → 0 < x r → puts P A r ≡ false
    -- (c) No rule of U takes from a U-siphon that is empty at c.
    pub siphons : (A : ℕ → Bool) → is_siphon P (λ r. eqb (x r) 0) A ≡ true → count_in A c ≡ 0 → (r : ℕ) → r < P.rules → 0 < x r → takes P A r ≡ false
