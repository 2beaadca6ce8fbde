-- Claim sheets (document 02, Job 10) over their bytes: header, sections and test 15. Everywhere y are a sheet's bytes, k its header, z
-- the sizes of the docket with which it goes.
use Rattle.std.specs.Prelude.{Bool, not, ◌&&◌, ◌||◌, List, ℕ, ◌+◌, ◌*◌, ltb, eqb, length}
use Rattle.theory.specs.Below.{any_below}
use Rattle.format.specs.Bytes.{le16, section}
use Rattle.format.specs.Format.{is_input}
use Rattle.format.specs.declared.Sizes.{Sizes}
use Rattle.shape.specs.Shape.{outside}
use Rattle.threshold.specs.Numbers.{leaf_length, sheet_weight, multiplier_of}
use Rattle.sheetshape.specs.declared.SheetHeader.{SheetHeader}

-- The header: eight 16-bit numbers.
abbrev pub sheet_header : List ℕ → SheetHeader
sheet_header y =
    record {
      states = le16 y 0;
      first = le16 y 2;
      second = le16 y 4;
      leaves = le16 y 6;
      at = record { numbers = le16 y 8; nodes = le16 y 10; leaves = le16 y 12; total = le16 y 14 };
    }

-- ---- Sections

-- How many bytes each section has: a 16-bit number for each state and the 32-bit limit; the nodes of both trees; the leaves.
module _ (k : SheetHeader) where
  abbrev pub numbers_length : ℕ
  numbers_length = 2 * k.states + 4

  abbrev pub first_length : ℕ
  first_length = 12 * k.first

  abbrev pub second_length : ℕ
  second_length = 12 * k.second

  abbrev pub leaves_length : ℕ
  leaves_length = k.leaves * leaf_length k.states

-- The bytes of the numbers, of the nodes of the two trees, the second's behind the first's, and of the leaves.
module _ (y : List ℕ) (k : SheetHeader) where
  abbrev pub numbers_in : List ℕ
  numbers_in = section y k.at.numbers (numbers_length k)

  abbrev pub first_nodes : List ℕ
  first_nodes = section y k.at.nodes (first_length k)

  abbrev pub second_nodes : List ℕ
  second_nodes = section y (k.at.nodes + first_length k) (second_length k)

  abbrev pub leaves_in : List ℕ
  leaves_in = section y k.at.leaves (leaves_length k)

-- ---- Test 15

-- The sheet has fewer than 16 bytes, or another length than its header says.
abbrev pub wrong_length : List ℕ → SheetHeader → Bool
wrong_length y k = ltb (length y) 16 || not (eqb (length y) k.at.total)

-- The number of states is not the docket's, n; a tree has not 1 to 1,024 nodes; or there are over 128 leaves.
abbrev pub wrong_counts : ℕ → SheetHeader → Bool
wrong_counts n k = not (eqb k.states n) || outside 1 1024 k.first || outside 1 1024 k.second || ltb 128 k.leaves

-- The numbers do not begin at byte 16, a section does not begin where the one before ends, or the total is not the end of the last.
abbrev pub wrong_offsets : SheetHeader → Bool
wrong_offsets k =
    not (eqb k.at.numbers 16)
    || not (eqb k.at.nodes (k.at.numbers + numbers_length k))
    || not (eqb k.at.leaves (k.at.nodes + (first_length k + second_length k)))
    || not (eqb k.at.total (k.at.leaves + leaves_length k))

-- State s is no input, and its number is not 0.
abbrev pub bad_number : Sizes → List ℕ → List ℕ → ℕ → Bool
bad_number z states numbers s = not (is_input z states s) && not (eqb (le16 numbers (2 * s)) 0)

-- Leaf l, of n states, has a weight outside -10,000 to 10,000, or a multiplier over 10,000.
unfoldable pub bad_sheet_leaf : ℕ → List ℕ → ℕ → Bool
bad_sheet_leaf n leaves l = any_below n (λ s. ltb 20000 (sheet_weight n leaves l s)) || ltb 10000 (multiplier_of n leaves l)

-- Test 15: a length, count or offset, a number of a state, or a leaf breaks its rule, also a leaf that no node names.
unfoldable pub sheet_fault : Sizes → List ℕ → List ℕ → SheetHeader → Bool
sheet_fault z states y k =
    (wrong_length y k || wrong_counts z.states k || wrong_offsets k)
    || any_below z.states (bad_number z states (numbers_in y k))
    || any_below k.leaves (bad_sheet_leaf z.states (leaves_in y k))
