-- What test 15 finds, part by part. Assumes nothing.
use Rattle.std.specs.Prelude.{◌≡◌, Bool, true, false, ◌||◌, List, ℕ, ◌*◌, ltb, Option}
use Rattle.std.specs.Option.{is_some}
use Rattle.std.proofs.Common.{sym, ap, ◌∙◌}
use Rattle.theory.specs.Below.{any_below}
use Rattle.theory.specs.Below.Ends.{first_where}
use Rattle.leaf.specs.Leaf.Laws.{found_some}
use Rattle.format.specs.Bytes.{le16}
use Rattle.format.specs.declared.Sizes.{Sizes}
use Rattle.leaf.specs.Leaf.{over_limit}
use Rattle.threshold.specs.Numbers.{leaf_in, sheet_weight, multiplier_of}
use Rattle.threshold.specs.Code.Laws.{weight_in_lem}
use Rattle.sheetshape.specs.SheetShape.{numbers_in, leaves_in}
use Rattle.sheetshape.specs.SheetShape.{wrong_length, wrong_counts, wrong_offsets, bad_number, bad_sheet_leaf, sheet_fault}
use Rattle.sheetshape.specs.declared.SheetHeader.{SheetHeader}

-- one has the bytes of leaf l, o is the first state whose weight is bad and m the multiplier.
pub leaf_is_bad : (z : Sizes) (leaves one : List ℕ) (l m : ℕ) (o : Option ℕ) → one ≡ leaf_in z.states leaves l
    → o ≡ first_where z.states (over_limit z one 0 0) → m ≡ le16 one (2 * z.states) → is_some o || ltb 10000 m ≡ bad_sheet_leaf z.states leaves l
unfolding bad_sheet_leaf
leaf_is_bad z leaves one l m o h e d =
    let n = z.states in
    let weights : is_some o ≡ any_below n (λ s. ltb 20000 (sheet_weight n leaves l s)) =
    found_some n (over_limit z one 0 0) o e ∙ ap (λ (w : ℕ → ℕ). any_below n (λ s. ltb 20000 (w s))) (sym (weight_in_lem z leaves one l h)) in
    let multiplier : ltb 10000 m ≡ ltb 10000 (multiplier_of n leaves l) = ap (ltb 10000) (d ∙ ap (λ (x : List ℕ). le16 x (2 * n)) h) in
    rw (weights, multiplier)

-- a, b and c say what is wrong with the header.
module _ (z : Sizes) (states y : List ℕ) (k : SheetHeader) (a b c : Bool) (ea : a ≡ wrong_length y k) (eb : b ≡ wrong_counts z.states k)
    (ec : c ≡ wrong_offsets k) where
  pub header_bad : a || b || c ≡ true → true ≡ sheet_fault z states y k
  unfolding sheet_fault
  header_bad h = rw (← ea, ← eb, ← ec, h)

  -- o is the first state whose number is bad, t whether there is one.
  module _ (numbers : List ℕ) (o : Option ℕ) (t : Bool) (h : a || b || c ≡ false) (en : numbers ≡ numbers_in y k)
      (eo : o ≡ first_where z.states (bad_number z states numbers)) (et : t ≡ is_some o) where
    number_is : t ≡ any_below z.states (bad_number z states (numbers_in y k))
    number_is = et ∙ found_some z.states (bad_number z states numbers) o eo ∙ ap (λ (x : List ℕ). any_below z.states (bad_number z states x)) en

    pub number_found : t ≡ true → t ≡ sheet_fault z states y k
    unfolding sheet_fault
    number_found d = d ∙ rw (← ea, ← eb, ← ec, h, ← number_is, d)

    pub leaf_found : (leaves : List ℕ) (p : Option ℕ) (u : Bool) → t ≡ false → leaves ≡ leaves_in y k
        → p ≡ first_where k.leaves (bad_sheet_leaf z.states leaves) → u ≡ is_some p → u ≡ sheet_fault z states y k
    unfolding sheet_fault
    leaf_found leaves p u d el ep eu =
        eu ∙ found_some k.leaves (bad_sheet_leaf z.states leaves) p ep ∙ rw (← ea, ← eb, ← ec, h, ← number_is, d, ← el)

pub ruleset faults = (header_bad, number_found, leaf_found)
