-- Test 15 passes just where the bytes of the sheet keep every rule, and what its numbers are. Assumes nothing.
use Rattle.std.specs.Prelude.{◌≡◌, Bool, not, cond, ◌&&◌, ◌||◌, List, ◌↔◌, ℕ, zero, suc, ◌+◌, ◌-◌, ◌*◌, ◌%◌, ◌≤◌, ◌<◌, eqb, pos, ◌-ℤ◌, length, get_or, drop}
use Rattle.std.proofs.Common.{sym, ap, ◌∙◌, mul-le-mul_right, arith, get_or-take, get_or-drop, ltb-false, le-ltb, lt-ltb, eqb-true, eq-eqb}
use Rattle.std.proofs.Math.Path.{subst}
use Rattle.std.proofs.Math.Bool.{false}
use Rattle.std.proofs.Math.Logic.{by_cases}
use Rattle.std.proofs.Math.Decide.{dec_lt}
use Rattle.std.proofs.Math.Dec.{ltb}
use Rattle.std.proofs.lemmas.Bool.{not-true, not-false}
use Rattle.theory.proofs.Bool.Laws.{not_both, is_false, or_none, or_fails, and_elim}
use Rattle.theory.specs.Below.{any_below}
use Rattle.theory.proofs.Below.Laws.{any_elim, any_fails}
use Rattle.theory.specs.Leaf.{signed}
use Rattle.theory.proofs.Leaf.Signed.{plus, minus, parts_same, sub_parts}
use Rattle.format.specs.Bytes.{le16, le32, section}
use Rattle.format.specs.Format.{header_of, sections_of, is_input, biased}
use Rattle.threshold.specs.Numbers.{leaf_in, sheet_weight, multiplier_of}
use Rattle.sheetshape.specs.SheetShape.{numbers_in, leaves_in, wrong_length, wrong_counts, wrong_offsets, bad_number, bad_sheet_leaf, sheet_fault}
use Rattle.claims.proofs.OfDocket.Weights.{weight_is}
use Rattle.claims.specs.OfSheet.{P, K, Bytes, leaf_at, SheetLaid, SheetSound, Reads}

-- ---- Numbers in a section

byte_in : (y : List ℕ) (k n i : ℕ) → i < n → get_or (section y k n) i 0 ≡ get_or y (k + i) 0
byte_in y k n i l = get_or-take n (drop k y) i 0 l ∙ get_or-drop k y i 0

le16_in : (y : List ℕ) (k n i : ℕ) → i + 1 < n → le16 (section y k n) i ≡ le16 y (k + i)
unfolding le16
le16_in y k n i l =
    let e : k + (i + 1) ≡ k + i + 1 = omega arith in
    rw (byte_in y k n i (omega arith), byte_in y k n (i + 1) l, e)

le32_in : (y : List ℕ) (k n i : ℕ) → i + 3 < n → le32 (section y k n) i ≡ le32 y (k + i)
unfolding le32
le32_in y k n i l =
    let e : k + (i + 2) ≡ k + i + 2 = omega arith in
    rw (le16_in y k n i (omega arith), le16_in y k n (i + 2) (omega arith), e)

le16_small : (y : List ℕ) → Bytes y → (k : ℕ) → le16 y k < 65536
unfolding le16
le16_small y bytes k = omega (arith, bytes k, bytes (k + 1))

le32_small : (y : List ℕ) → Bytes y → (k : ℕ) → le32 y k < 4294967296
unfolding le32
le32_small y bytes k = omega (arith, le16_small y bytes k, le16_small y bytes (k + 2))

-- ---- Signed numbers

minus-parts : (u n : ℕ) → (plus (pos u -ℤ pos n) ≡ u - n) × (minus (pos u -ℤ pos n) ≡ n - u)
minus-parts u zero = (omega arith, omega arith)
minus-parts u (suc n) = sub_parts u (suc n)

-- v is one of n + n numbers, and u is it biased by n: then u less n is the signed number for which v stands.
unbiased : (n v u : ℕ) → (v < n → u ≡ v + n) → (n ≤ v → u + n ≡ v) → v < n + n → pos u -ℤ pos n ≡ cond (ltb v n) (pos v) (pos v -ℤ pos (n + n))
unbiased n v u low high small =
    let d = minus-parts u n in
    by_cases (dec_lt v n)
    (λ l. rw (lt-ltb v n l) (parts_same (pos u -ℤ pos n) (pos v) (omega (arith, d.0, low l)) (omega (arith, d.1, low l))))
    (λ g.
    let e = minus-parts v (n + n) in
    let h : n ≤ v = omega arith in
    rw (le-ltb v n h) (parts_same (pos u -ℤ pos n) (pos v -ℤ pos (n + n)) (omega (arith, d.0, e.0, high h)) (omega (arith, d.1, e.1, high h))))

-- ---- The header

-- A test that finds nothing: two numbers are equal, or a number is within its limits.
equal : (a b : ℕ) → (not (eqb a b) ≡ false) ↔ (a ≡ b)
equal a b = (λ e. eqb-true a b (not-false _ e), λ e. rw (eq-eqb a b e))

within : (least most n : ℕ) → (ltb n least || ltb most n ≡ false) ↔ ((least ≤ n) × (n ≤ most))
within least most n = (
  λ e. let f = or_fails _ _ e in (ltb-false n least f.0, ltb-false most n f.1),
  λ h. or_none _ _ (le-ltb n least h.0) (le-ltb most n h.1),
)

module _ (b y : List ℕ) where
  abbrev n : ℕ
  n = (header_of b).sizes.states

  abbrev states : List ℕ
  states = (sections_of b (header_of b)).states

  header_passes : wrong_length y (K b y) || wrong_counts n (K b y) || wrong_offsets (K b y) ≡ false → SheetLaid b y
  header_passes e =
      let k = K b y in
      let a = or_fails _ (wrong_offsets k) e in
      let l = or_fails (wrong_length y k) (wrong_counts n k) a.0 in
      let ll = or_fails _ _ l.0 in
      let c1 = or_fails _ (ltb 128 k.leaves) l.1 in
      let c2 = or_fails _ (ltb k.second 1 || ltb 1024 k.second) c1.0 in
      let c3 = or_fails (not (eqb k.states n)) _ c2.0 in
      let o1 = or_fails _ _ a.1 in
      let o2 = or_fails _ _ o1.0 in
      let o3 = or_fails _ _ o2.0 in
      let same = (equal k.states n).0 c3.0 in
      let at = (equal k.at.numbers 16).0 o3.0 in
      record {
        header = ltb-false _ _ ll.0;
        whole = (equal (length y) k.at.total).0 ll.1;
        states = same;
        first = (within 1 1024 _).0 c3.1;
        second = (within 1 1024 _).0 c2.1;
        leaves = ltb-false _ _ c1.1;
        numbers_at = at;
        nodes_at = omega (arith, (equal k.at.nodes (k.at.numbers + (2 * k.states + 4))).0 o3.1, at, same);
        leaves_at = omega (arith, (equal k.at.leaves (k.at.nodes + (12 * k.first + 12 * k.second))).0 o2.1);
        total_at = (equal k.at.total (k.at.leaves + k.leaves * (2 * k.states + 2))).0 o1.1 ∙ rw same;
      }

  passes_header : SheetLaid b y → wrong_length y (K b y) || wrong_counts n (K b y) || wrong_offsets (K b y) ≡ false
  passes_header h =
      let k = K b y in
      let nodes : k.at.nodes ≡ k.at.numbers + (2 * k.states + 4) = omega (arith, h.nodes_at, h.numbers_at, h.states) in
      let leaves : k.at.leaves ≡ k.at.nodes + (12 * k.first + 12 * k.second) = omega (arith, h.leaves_at) in
      let total : k.at.total ≡ k.at.leaves + k.leaves * (2 * k.states + 2) = h.total_at ∙ rw h.states in
      or_none (wrong_length y k || wrong_counts n k) (wrong_offsets k)
      (or_none (wrong_length y k) (wrong_counts n k)
      (or_none _ _ (le-ltb (length y) 16 h.header) ((equal (length y) k.at.total).1 h.whole))
      (or_none _ _
      (or_none _ _
      (or_none _ _ ((equal k.states n).1 h.states) ((within 1 1024 k.first).1 h.first))
      ((within 1 1024 k.second).1 h.second))
      (le-ltb 128 k.leaves h.leaves)))
      (or_none _ _
      (or_none _ _
      (or_none _ _ ((equal k.at.numbers 16).1 h.numbers_at) ((equal k.at.nodes (k.at.numbers + (2 * k.states + 4))).1 nodes))
      ((equal k.at.leaves (k.at.nodes + (12 * k.first + 12 * k.second))).1 leaves))
      ((equal k.at.total (k.at.leaves + k.leaves * (2 * k.states + 2))).1 total))

  -- ---- Numbers and leaves, where the header is sound

  module _ (h : SheetLaid b y) where
    number_at : (s : ℕ) → s < n → le16 (numbers_in y (K b y)) (2 * s) ≡ le16 y (16 + 2 * s)
    number_at s l =
        le16_in y (K b y).at.numbers (2 * (K b y).states + 4) (2 * s) (omega (arith, h.states)) ∙ ap (λ (i : ℕ). le16 y (i + 2 * s)) h.numbers_at

    limit_at : le32 (numbers_in y (K b y)) (2 * n) ≡ le32 y (16 + 2 * n)
    limit_at =
        le32_in y (K b y).at.numbers (2 * (K b y).states + 4) (2 * n) (omega (arith, h.states)) ∙ ap (λ (i : ℕ). le32 y (i + 2 * n)) h.numbers_at

    -- Byte i of leaf l.
    leaf_at_lem : (l i : ℕ) → l < (K b y).leaves → i + 1 < 2 * n + 2 → le16 (leaf_in n (leaves_in y (K b y)) l) i ≡ le16 y (leaf_at b y l + i)
    leaf_at_lem l i m j =
        let k = K b y in
        let w = 2 * n + 2 in
        let all : k.leaves * (2 * k.states + 2) ≡ k.leaves * w = rw h.states in
        let next : suc l * w ≤ k.leaves * w = mul-le-mul_right w (omega arith) in
        let e : k.at.leaves + (l * w + i) ≡ leaf_at b y l + i = omega arith in
        le16_in (leaves_in y k) (l * w) w i j
        ∙ le16_in y k.at.leaves (k.leaves * (2 * k.states + 2)) (l * w + i) (omega arith)
        ∙ ap (le16 y) e

    abbrev weight : ℕ → ℕ → ℕ
    weight = sheet_weight n (leaves_in y (K b y))

    abbrev multiplier : ℕ → ℕ
    multiplier = multiplier_of n (leaves_in y (K b y))

    -- The number of each state passes just where it is 0 or the state is an input.
    numbers_pass : any_below n (bad_number (header_of b).sizes states (numbers_in y (K b y))) ≡ false
        → (s : ℕ) → s < n → (P b y).input s ≡ false → le16 y (16 + 2 * s) ≡ 0
    numbers_pass e s l i =
        let v = le16 (numbers_in y (K b y)) (2 * s) in
        let f = any_fails n (bad_number (header_of b).sizes states (numbers_in y (K b y))) e s l in
        sym (number_at s l) ∙ (equal v 0).0 (subst (λ (t : Bool). not t && not (eqb v 0) ≡ false) i f)

    pass_numbers : ((s : ℕ) → s < n → (P b y).input s ≡ false → le16 y (16 + 2 * s) ≡ 0)
        → any_below n (bad_number (header_of b).sizes states (numbers_in y (K b y))) ≡ false
    pass_numbers g =
        is_false _ (λ e.
        let s = any_elim n (bad_number (header_of b).sizes states (numbers_in y (K b y))) e in
        let f = and_elim (not (is_input (header_of b).sizes states s.0)) _ s.2 in
        not_both f.1 ((equal (le16 (numbers_in y (K b y)) (2 * s.0)) 0).1 (number_at s.0 s.1 ∙ g s.0 s.1 (not-true _ f.0))))

    leaves_pass : any_below (K b y).leaves (bad_sheet_leaf n (leaves_in y (K b y))) ≡ false → (l : ℕ) → l < (K b y).leaves
        → ((s : ℕ) → s < n → biased (le16 y (leaf_at b y l + 2 * s)) ≤ 20000) × (le16 y (leaf_at b y l + 2 * n) ≤ 10000)
    unfolding bad_sheet_leaf
    leaves_pass e l m =
        let f = or_fails _ _ (any_fails (K b y).leaves (bad_sheet_leaf n (leaves_in y (K b y))) e l m) in (
          λ s j.
              subst (λ (v : ℕ). biased v ≤ 20000) (leaf_at_lem l (2 * s) m (omega arith))
              (ltb-false 20000 (weight l s) (any_fails n (λ i. ltb 20000 (weight l i)) f.0 s j)),
          subst (λ (v : ℕ). v ≤ 10000) (leaf_at_lem l (2 * n) m (omega arith)) (ltb-false 10000 (multiplier l) f.1),
        )

    pass_leaves : ((l : ℕ) → l < (K b y).leaves
        → ((s : ℕ) → s < n → biased (le16 y (leaf_at b y l + 2 * s)) ≤ 20000) × (le16 y (leaf_at b y l + 2 * n) ≤ 10000))
        → any_below (K b y).leaves (bad_sheet_leaf n (leaves_in y (K b y))) ≡ false
    unfolding bad_sheet_leaf
    pass_leaves g =
        is_false _ (λ e.
        let l = any_elim (K b y).leaves (bad_sheet_leaf n (leaves_in y (K b y))) e in
        let q = g l.0 l.1 in
        let none : any_below n (λ i. ltb 20000 (weight l.0 i)) ≡ false =
        is_false _ (λ a.
        let s = any_elim n (λ i. ltb 20000 (weight l.0 i)) a in
        let within = subst (λ (v : ℕ). biased v ≤ 20000) (sym (leaf_at_lem l.0 (2 * s.0) l.1 (omega (arith, s.1)))) (q.0 s.0 s.1) in
        not_both s.2 (le-ltb 20000 (weight l.0 s.0) within)) in
        let few = subst (λ (v : ℕ). v ≤ 10000) (sym (leaf_at_lem l.0 (2 * n) l.1 (omega arith))) q.1 in
        not_both l.2 (or_none _ _ none (le-ltb 10000 (multiplier l.0) few)))

  -- ---- Test 15

  pub fault_none : (sheet_fault (header_of b).sizes states y (K b y) ≡ false) ↔ SheetSound b y
  unfolding sheet_fault
  fault_none = (
    λ e.
        let a = or_fails _ (any_below (K b y).leaves (bad_sheet_leaf n (leaves_in y (K b y)))) e in
        let c = or_fails (wrong_length y (K b y) || wrong_counts n (K b y) || wrong_offsets (K b y)) _ a.0 in
        let h = header_passes c.0 in
        let g = leaves_pass h a.1 in
        record {
          laid = h;
          numbers = numbers_pass h c.1;
          weights = λ l s m j. (g l m).0 s j;
          multipliers = λ l m. (g l m).1;
        },
    λ s.
        let h = s.laid in
        or_none _ _
        (or_none _ _ (passes_header h) (pass_numbers h s.numbers))
        (pass_leaves h (λ l m. (λ i j. s.weights l i m j, s.multipliers l m))),
  )

  -- ---- What the numbers are

  pub reads : SheetSound b y → Bytes y → Reads b y
  reads s bytes =
      let h = s.laid in
      record {
        number_is = λ i l.
            let v = le16 y (16 + 2 * i) in
            let small = le16_small y bytes (16 + 2 * i) in
            ap (λ (x : ℕ). pos ((x + 32768) % 65536) -ℤ pos 32768) (number_at h i l)
            ∙ unbiased 32768 v ((v + 32768) % 65536) (λ m. omega arith) (λ m. omega arith) (omega arith);
        limit_is =
            let v = le32 y (16 + 2 * n) in
            let small = le32_small y bytes (16 + 2 * n) in
            ap (λ (x : ℕ). pos ((x + 2147483648) % 4294967296) -ℤ pos 2147483648) (limit_at h)
            ∙ unbiased 2147483648 v ((v + 2147483648) % 4294967296) (λ m. omega arith) (λ m. omega arith) (omega arith);
        weight_is = λ l i m j.
            let v = le16 y (leaf_at b y l + 2 * i) in
            ap (λ (x : ℕ). signed (biased x)) (leaf_at_lem h l (2 * i) m (omega arith))
            ∙ weight_is v (le16_small y bytes (leaf_at b y l + 2 * i)) (s.weights l i m j);
        multiplier_is = λ l m. leaf_at_lem h l (2 * n) m (omega arith);
      }
