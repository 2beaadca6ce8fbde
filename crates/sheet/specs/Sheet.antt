-- The check of a docket with its claim sheet (document 02, Job 10). Everywhere y are the sheet's bytes, k its header, z the sizes of the
-- docket.
use Rattle.std.specs.Prelude.{List, [], ◌∷◌, ℕ, Result, Ok, Err}
use Rattle.theory.specs.Judge.{Test, only, judge}
use Rattle.theory.specs.Tree.{Tree, Walked, next, refused}
use Rattle.theory.specs.Sheet.{Sheet, sheet_answer}
use Rattle.format.specs.Format.{header_of, Sections, sections_of, protocol_of, tree_of}
use Rattle.format.specs.declared.Sizes.{Sizes}
use Rattle.refusals.specs.declared.Refusal.{Refusal}
use Rattle.refusals.specs.Refusal.{refusal}
use Rattle.threshold.specs.Numbers.{sheet_number, sheet_limit, sheet_weight, multiplier_of}
use Rattle.checker.specs.Check.{check_of, on_accepted}
use Rattle.sheetshape.specs.SheetShape.{sheet_header, numbers_in, first_nodes, second_nodes, leaves_in, sheet_fault}
use Rattle.sheetshape.specs.declared.SheetHeader.{SheetHeader}

-- The sizes z, with the nodes of one tree of the sheet and its leaves.
abbrev pub tree_sizes : Sizes → ℕ → ℕ → Sizes
tree_sizes z nodes leaves =
    record { version = z.version; states = z.states; rules = z.rules; layers = z.layers; nodes = nodes; leaves = leaves }

-- The claim sheet that the bytes of its numbers and leaves stand for, with these two trees.
abbrev pub sheet_with : Sizes → List ℕ → List ℕ → Tree → Tree → Sheet
sheet_with z numbers leaves first second =
    record {
      numbers = sheet_number numbers;
      limit = sheet_limit z.states numbers;
      weights = sheet_weight z.states leaves;
      multiplier = multiplier_of z.states leaves;
      first = first;
      second = second;
    }

-- The claim sheet that all its bytes stand for.
abbrev pub sheet_in : Sizes → List ℕ → SheetHeader → Sheet
sheet_in z y k =
    sheet_with z (numbers_in y k) (leaves_in y k)
    (tree_of (tree_sizes z k.first k.leaves) (first_nodes y k))
    (tree_of (tree_sizes z k.second k.leaves) (second_nodes y k))

-- Test 15.
abbrev pub sheet_tests : Sizes → List ℕ → List ℕ → SheetHeader → List Test
sheet_tests z states y k = only 15 (sheet_fault z states y k) ∷ []

-- ---- The check

-- What the walk of the two trees comes to.
abbrev pub walked_sheet : Walked → Result (Unit {0}) Refusal
walked_sheet (next j) = Ok tt
walked_sheet (refused n j) = Err (refusal n j)

-- Test 15, then 12 and 13 of the two trees, for a docket with the sections x.
unfoldable pub sheet_check : Sizes → Sections → List ℕ → Result (Unit {0}) Refusal
sheet_check z x y =
    let k = sheet_header y in
    let P = protocol_of z x.states x.rules in
    judge (λ n j. Err (refusal n j)) (walked_sheet (sheet_answer P (sheet_in z y k))) (sheet_tests z x.states y k)

-- The check of a docket with bytes b and its sheet: the docket's whole check first, then the sheet's. The protocol is looked at only
-- where the docket is accepted, so its header passes tests 1 to 4.
unfoldable pub check_sheet_of : List ℕ → List ℕ → Result (Unit {0}) Refusal
check_sheet_of b y = let h = header_of b in on_accepted Err (sheet_check h.sizes (sections_of b h) y) (check_of b)
