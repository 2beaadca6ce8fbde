-- Tests are Booleans. A set of numbers is a test of each number: the set of s alone is eqb s.
use Rattle.std.specs.Prelude.{Bool, true, false, not, ◌||◌, ℕ, ◌/◌, ◌%◌, ◌^◌, eqb}

-- If a then b.
abbrev pub imp : Bool → Bool → Bool
imp a b = not a || b

-- 1 for a test that passes, 0 for one that fails.
abbrev pub bit : Bool → ℕ
bit true = 1
bit false = 0

-- The set that a number stands for, as a node's 64-bit set: s is a member if bit s is set.
unfoldable pub member : ℕ → ℕ → Bool
member w s = eqb (w / 2 ^ s % 2) 1
