-- Little-endian numbers in a list of bytes. Past the end of the list a byte reads as 0.
use Rattle.std.specs.Prelude.{List, ℕ, ◌+◌, ◌*◌, get_or, take, drop}
pub mod Laws

-- The 16, 32 and 64 bits at byte k.
unfoldable pub le16 : List ℕ → ℕ → ℕ
le16 b k = get_or b k 0 + 256 * get_or b (k + 1) 0

unfoldable pub le32 : List ℕ → ℕ → ℕ
le32 b k = le16 b k + 65536 * le16 b (k + 2)

unfoldable pub le64 : List ℕ → ℕ → ℕ
le64 b k = le32 b k + 4294967296 * le32 b (k + 4)

-- The n bytes from byte k on.
abbrev pub section : List ℕ → ℕ → ℕ → List ℕ
section b k n = take n (drop k b)
