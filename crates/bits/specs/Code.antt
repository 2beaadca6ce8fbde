-- What the functions on words answer: a word of 64 bits as the set of its members, the numbers of its set bits.
use Rattle.std.specs.Prelude.{◌≡◌, Bool, false, not, ◌&&◌, ◌||◌, List, ℕ, ◌+◌, ◌*◌, ◌/◌, ◌%◌, ◌≤◌, ◌<◌, ltb, eqb, get_or}
use Rattle.theory.specs.Bool.{member, imp}
use Rattle.theory.specs.Below.{all_below, first_below}
pub mod Laws

-- i alone; no number where i is 64 or more.
abbrev pub single_of : ℕ → ℕ → Bool
single_of i = λ j. ltb j 64 && eqb i j

-- The numbers below n and below 64.
abbrev pub full_of : ℕ → ℕ → Bool
full_of n = λ j. ltb j 64 && ltb j n

-- The numbers below n, and below 64, that pass f.
unfoldable pub among_of : ℕ → (ℕ → Bool) → ℕ → Bool
among_of n f j = ltb j 64 && (ltb j n && f j)

-- The set w of the numbers below n, and below 64, that a test passes, where Gives i t says that it may give t at i.
pub record Among (Gives : ℕ → Bool → Type 0) (n w : ℕ) : Type 0 where
  pub inside : (i : ℕ) → i < n → i < 64 → Gives i (member w i)
  pub beyond : (i : ℕ) → n ≤ i → member w i ≡ false

-- The members of a and those of b.
abbrev pub union_of : ℕ → ℕ → ℕ → Bool
union_of a b = λ j. member a j || member b j

-- The members of w, and i where the test passed.
unfoldable pub with_if : Bool → ℕ → ℕ → ℕ → Bool
with_if t i w = λ j. member w j || (t && single_of i j)

-- The members of a that are none of b.
abbrev pub without_of : ℕ → ℕ → ℕ → Bool
without_of a b = λ j. member a j && not (member b j)

-- Every member of a is one of b.
abbrev pub subset_of : ℕ → ℕ → Bool
subset_of a b = all_below 64 (λ i. imp (member a i) (member b i))

-- No member of a is one of b.
abbrev pub disjoint_of : ℕ → ℕ → Bool
disjoint_of a b = all_below 64 (λ i. not (member a i && member b i))

-- The lowest member, 64 where there is none.
abbrev pub lowest_of : ℕ → ℕ
lowest_of w = first_below 64 (member w)

-- A set of numbers in words, 64 numbers to a word: whether i is in it.
unfoldable pub in_words : List ℕ → ℕ → Bool
in_words ws i = member (get_or ws (i / 64) 0) (i % 64)

-- Of the set A, the 64 numbers from 64 q on, counted from there.
unfoldable pub in_word : ℕ → (ℕ → Bool) → ℕ → Bool
in_word q A i = ltb i 64 && A (64 * q + i)

-- Of the set A, the numbers below 64 q.
unfoldable pub first_words : ℕ → (ℕ → Bool) → ℕ → Bool
first_words q A i = ltb i (64 * q) && A i
