-- What the words of the struct Facts say: the facts of document 01, "The tree".
use Rattle.std.specs.Prelude.{Bool, false, not, cond, ◌&&◌, ◌||◌, List, map, ℕ, ◌-◌, eqb, leb, ltb, get_or}
use Rattle.theory.specs.Bool.{member}
use Rattle.theory.specs.Facts as theory
use Rattle.bits.specs.Code.{full_of, in_words}
use Rattle.facts.specs.declared.Facts.{Facts}
pub mod Laws

-- Of words for the parties from b on, that of party k; 0 where it has none.
unfoldable pub word_of : ℕ → List ℕ → ℕ → ℕ
word_of b ws k = cond (leb b k) (get_or ws (k - b) 0) 0

-- Of n words, party k has one.
unfoldable pub has_word : ℕ → ℕ → ℕ → Bool
has_word b n k = leb b k && ltb (k - b) n

-- The sets in the words.
unfoldable pub sets_of : ℕ → List ℕ → ℕ → ℕ → Bool
sets_of b ws k = member (word_of b ws k)

-- Party k is an end, and so has a run.
unfoldable pub is_end : ℕ → Bool
is_end k = ltb 0 k && ltb k 3

-- The sets of states at each party and at each end, and the sets of rules in each run.
abbrev pub states_at : List ℕ → ℕ → ℕ → Bool
states_at ws = sets_of 0 ws

abbrev pub states_at_end : List ℕ → ℕ → ℕ → Bool
states_at_end ws = sets_of 1 ws

unfoldable pub rules_of_run : List (List ℕ) → ℕ → ℕ → Bool
rules_of_run ws k = in_words (map (λ w. word_of 1 w k) ws)

-- The facts that the words stand for.
abbrev pub facts_of : Facts → theory.Facts
facts_of f =
    record {
      absent = states_at f.absent;
      present = states_at f.present;
      at_most_one = states_at_end f.at_most_one;
      unused = rules_of_run f.unused;
    }

-- The fresh facts of n states, A being the inputs and B the states with fixed agents: words hold the states below 64.
unfoldable pub fresh_of : ℕ → (ℕ → Bool) → (ℕ → Bool) → theory.Facts
fresh_of n A B =
    record {
      absent = λ k s. eqb k 0 && ((full_of n s && not (A s)) && not (B s));
      present = λ k s. eqb k 0 && B s;
      at_most_one = λ _ _. false;
      unused = λ _ _. false;
    }

-- The members of A, and those of B where the test passed.
unfoldable pub joined_if : Bool → (ℕ → Bool) → (ℕ → Bool) → ℕ → Bool
joined_if t A B i = A i || (t && B i)

-- The set A where the test passes, otherwise the empty set.
unfoldable pub only_if : Bool → (ℕ → Bool) → ℕ → Bool
only_if t A s = t && A s
