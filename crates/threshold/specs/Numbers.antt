-- The numbers, the limit and the leaves of a claim sheet (document 02, Job 10) over its bytes, where there are n states.
use Rattle.std.specs.Prelude.{List, ℕ, ◌+◌, ◌*◌, ◌%◌}
use Rattle.format.specs.Bytes.{le16, le32, section}
use Rattle.format.specs.Format.{biased}

-- The number of state s. A signed number a of 16 bits stands in the file as a modulo 65,536. Biased it is a + 32,768.
abbrev pub sheet_number : List ℕ → ℕ → ℕ
sheet_number numbers s = (le16 numbers (2 * s) + 32768) % 65536

-- The limit, behind the n numbers. A signed limit c of 32 bits stands in the file as c modulo 4,294,967,296. Biased it is c +
-- 2,147,483,648.
abbrev pub sheet_limit : ℕ → List ℕ → ℕ
sheet_limit n numbers = (le32 numbers (2 * n) + 2147483648) % 4294967296

-- A leaf is n weights of 16 bits, then the multiplier of 16 bits.
abbrev pub leaf_length : ℕ → ℕ
leaf_length n = 2 * n + 2

-- The bytes of leaf l.
abbrev pub leaf_in : ℕ → List ℕ → ℕ → List ℕ
leaf_in n leaves l = section leaves (l * leaf_length n) (leaf_length n)

-- Leaf l's weight of state s, plus 10,000.
abbrev pub sheet_weight : ℕ → List ℕ → ℕ → ℕ → ℕ
sheet_weight n leaves l s = biased (le16 (leaf_in n leaves l) (2 * s))

-- Leaf l's multiplier.
abbrev pub multiplier_of : ℕ → List ℕ → ℕ → ℕ
multiplier_of n leaves l = le16 (leaf_in n leaves l) (2 * n)
