-- The facts that a tree of arguments gathers (document 01, "The tree"). Party 0 is the start, party k > 0 is run k with
-- its end.
use Rattle.std.specs.Prelude.{Bool, false, not, ◌&&◌, ◌||◌, ℕ, ltb, eqb}
use Rattle.theory.specs.Protocol.{Protocol}

-- absent k s, present k s, at_most_one k s: state s holds no agent at party k, at least one, at most one. unused k r: rule
-- r makes no meeting in run k.
pub record Facts : Type 0 where
  pub absent : ℕ → ℕ → Bool
  pub present : ℕ → ℕ → Bool
  pub at_most_one : ℕ → ℕ → Bool
  pub unused : ℕ → ℕ → Bool

-- Facts of one sort: those of f, and those that the set A has at party k.
unfoldable pub extend : (ℕ → ℕ → Bool) → ℕ → (ℕ → Bool) → ℕ → ℕ → Bool
extend f k A j s = (eqb j k && A s) || f j s

-- The facts F, and that the states of A are absent at party k. Facts only grow.
unfoldable pub with_absent : Facts → ℕ → (ℕ → Bool) → Facts
with_absent F k A = record { absent = extend F.absent k A; present = F.present; at_most_one = F.at_most_one; unused = F.unused }

-- The facts F, and that the states of A are present at party k.
unfoldable pub with_present : Facts → ℕ → (ℕ → Bool) → Facts
with_present F k A = record { absent = F.absent; present = extend F.present k A; at_most_one = F.at_most_one; unused = F.unused }

-- The facts F, and that each state of A holds at most one agent at party k.
unfoldable pub with_at_most_one : Facts → ℕ → (ℕ → Bool) → Facts
with_at_most_one F k A = record { absent = F.absent; present = F.present; at_most_one = extend F.at_most_one k A; unused = F.unused }

-- The facts F, and that the rules of A are unused in run k.
unfoldable pub with_unused : Facts → ℕ → (ℕ → Bool) → Facts
with_unused F k A = record { absent = F.absent; present = F.present; at_most_one = F.at_most_one; unused = extend F.unused k A }

-- A fresh set of facts says only that every state with fixed agents is present at the start, and that every other state
-- that is no input is absent there.
unfoldable pub fresh : Protocol → Facts
fresh P = record {
  absent = λ k s. eqb k 0 && (ltb s P.states && (eqb (P.fixed s) 0 && not (P.input s)));
  present = λ k s. ltb 0 (P.fixed s) && (eqb k 0 && ltb s P.states);
  at_most_one = λ _ _. false;
  unused = λ _ _. false;
}
