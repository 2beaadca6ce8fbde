-- Lists of calls on the counts of one configuration: the counts that they leave, and the meetings that they report.
use Rattle.std.specs.Prelude.{List, [], ◌∷◌, ℕ, ◌+◌}
use Rattle.theory.specs.Protocol.{Protocol}
use Rattle.theory.specs.Ladder.{Layers}
use Rattle.theory.specs.Machine.{Call, meetings_of, reply, counts_after}

module _ (P : Protocol) (L : Layers) where
  -- The counts that a list of calls leaves, each call on the counts that the one before it leaves.
  unfoldable pub last_counts : List ℕ → List Call → List ℕ
  last_counts c [] = c
  last_counts c (x ∷ xs) = last_counts (counts_after P L c x) xs

  -- The meetings that a list of calls reports: the steps not refused plus the totals that the runs return.
  unfoldable pub reported : List ℕ → List Call → ℕ
  reported c [] = 0
  reported c (x ∷ xs) = meetings_of (reply P L c x) + reported (counts_after P L c x) xs
