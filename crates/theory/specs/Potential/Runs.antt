-- Runs as a tree sees them, and the meetings of a list by rule.
use Rattle.std.specs.Prelude.{◌&&◌, List, [], ◌∷◌, ℕ, ◌+◌, eqb}
use Rattle.theory.specs.Bool.{bit}
use Rattle.theory.specs.Protocol.{Protocol, fires, tried}
use Rattle.theory.specs.Potential.{Potential}

module _ (P : Protocol) where
  -- A configuration that is potentially reachable from c, and through what: all that a tree needs of a run.
  pub record Reach (c : List ℕ) : Type 0 where
    pub end : List ℕ
    pub through : ℕ → ℕ
    pub potential : Potential P through c end

  -- How often rule r fires in a list of rule numbers tried from c (the paper: the Parikh vector of the sequence).
  unfoldable pub parikh : List ℕ → List ℕ → ℕ → ℕ
  parikh c [] r = 0
  parikh c (i ∷ is) r = bit (fires P c i && eqb i r) + parikh (tried P c i) is r
