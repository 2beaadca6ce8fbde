-- What is proved of claim sheets (document 02, Job 10), for every docket with bytes b and every sheet with bytes y. Statements only;
-- proofs/OfSheet/ proves them. The contract of the code says that the check of a docket with its sheet answers check_sheet_of b y.
use Rattle.refusals.specs.declared.Refusal.{Refusal}
use Rattle.refusals.specs.Refusal.{refusal}
use Rattle.std.specs.Prelude.{◌≡◌, true, false, cond, List, ◌↔◌, ◌⊎◌, ℕ, ◌+◌, ◌*◌, ◌≤◌, ◌<◌, length, get_or, ltb, ℤ, pos, ◌-ℤ◌, ◌≤ℤ◌, ◌<ℤ◌, Ok, Err, Some}
use Rattle.theory.specs.Protocol.{Protocol, terminal, Shows, Start, after}
use Rattle.theory.specs.Facts.{Facts}
use Rattle.theory.specs.Leaf.{signed}
use Rattle.theory.specs.Tree.{Assumption}
use Rattle.theory.specs.Subtree.{TreeStands, TreeFails}
use Rattle.theory.specs.Machine.{Call, admitted}
use Rattle.theory.specs.Sheet.{Sheet, at_least, at_most, counterexample, number_of, limit_of, weighed_sum, FirstRule, SecondRule}
use Rattle.theory.specs.Claims.{ReachesPotentially}
use Rattle.format.specs.Bytes.{le16, le32}
use Rattle.format.specs.Format.{header_of, protocol_in, biased}
use Rattle.checker.specs.Check.{check_of}
use Rattle.machine.specs.Calls.{verdict_of}
use Rattle.sheetshape.specs.SheetShape.{sheet_header}
use Rattle.sheetshape.specs.declared.SheetHeader.{SheetHeader}
use Rattle.sheet.specs.Sheet.{sheet_in, check_sheet_of}
use Rattle.codes.specs.Codes.{code, check_code}
use Rattle.claims.specs.OfDocket.{IsAccepted, number16, last_on}

-- Every member is a byte.
abbrev pub Bytes : List ℕ → Type 0
Bytes y = (i : ℕ) → get_or y i 0 < 256

-- The signed number that 32 bits v stand for.
abbrev pub number32 : ℕ → ℤ
number32 v = cond (ltb v 2147483648) (pos v) (pos v -ℤ pos 4294967296)

module _ (b y : List ℕ) where
  -- The docket's protocol and its number of states; the sheet's header, and the sheet that the bytes stand for.
  abbrev pub P : Protocol
  P = protocol_in b (header_of b)

  abbrev S : ℕ
  S = P.states

  abbrev pub K : SheetHeader
  K = sheet_header y

  abbrev pub Z : Sheet
  Z = sheet_in (header_of b).sizes y K

  -- ---- The bytes of a sheet, as document 02 has them

  -- Where leaf l begins: a leaf is S weights and a multiplier, of 16 bits each.
  abbrev pub leaf_at : ℕ → ℕ
  leaf_at l = K.at.leaves + l * (2 * S + 2)

  -- The header keeps its rules: the docket's S, the nodes of either tree, the leaves, the offsets and the total.
  pub record SheetLaid : Type 0 where
    pub header : 16 ≤ length y
    pub states : K.states ≡ S
    pub first : (1 ≤ K.first) × (K.first ≤ 1024)
    pub second : (1 ≤ K.second) × (K.second ≤ 1024)
    pub leaves : K.leaves ≤ 128
    -- There are no gaps.
    pub numbers_at : K.at.numbers ≡ 16
    pub nodes_at : K.at.nodes ≡ 16 + (2 * S + 4)
    pub leaves_at : K.at.leaves ≡ K.at.nodes + 12 * (K.first + K.second)
    pub total_at : K.at.total ≡ leaf_at K.leaves
    pub whole : length y ≡ K.at.total

  -- The bytes keep every rule (test 15).
  pub record SheetSound : Type 0 where
    pub laid : SheetLaid
    -- The number of a state is 0 unless it is an input.
    pub numbers : (s : ℕ) → s < S → P.input s ≡ false → le16 y (16 + 2 * s) ≡ 0
    -- In every leaf, named by a node or not, each weight is -10,000 to 10,000 (biased it is the weight plus 10,000, and OfDocket's
    -- weight_within says that just these are within the limits) and the multiplier is at most 10,000.
    pub weights : (l s : ℕ) → l < K.leaves → s < S → biased (le16 y (leaf_at l + 2 * s)) ≤ 20000
    pub multipliers : (l : ℕ) → l < K.leaves → le16 y (leaf_at l + 2 * S) ≤ 10000

  -- What the numbers, the limit and the leaves are, of a sheet whose bytes keep every rule.
  pub record Reads : Type 0 where
    pub number_is : (s : ℕ) → s < S → number_of Z s ≡ number16 (le16 y (16 + 2 * s))
    pub limit_is : limit_of Z ≡ number32 (le32 y (16 + 2 * S))
    pub weight_is : (l s : ℕ) → l < K.leaves → s < S → signed (Z.weights l s) ≡ number16 (le16 y (leaf_at l + 2 * s))
    pub multiplier_is : (l : ℕ) → l < K.leaves → Z.multiplier l ≡ le16 y (leaf_at l + 2 * S)

  -- ---- Acceptance

  abbrev pub IsSheetAccepted : Type 0
  IsSheetAccepted = check_sheet_of b y ≡ Ok tt

  -- What the two trees refute: a sum of at least c and an end with a state of output 0; a sum of at most c - 1 and an end with a state
  -- of output 1.
  abbrev pub assumed₁ : Assumption
  assumed₁ = counterexample P Z (at_least Z) false

  abbrev pub assumed₂ : Assumption
  assumed₂ = counterexample P Z (at_most Z) true

  -- The sheet keeps every rule of document 02: those of its bytes, and its two trees stand.
  pub record SheetRules : Type 0 where
    pub sound : SheetSound
    pub first : TreeStands P assumed₁ Z.first
    pub second : TreeStands P assumed₂ Z.second

  -- The leaf rules of the two trees are document 02's, in signed weights and numbers, for the weights and the multiplier of leaf l. A tree
  -- speaks of one run, and has no kind 7.
  pub record LeafRules : Type 0 where
    pub first_rule : (F : Facts) (l : ℕ) → (assumed₁.closes F l ≡ true)
        ↔ FirstRule P Z F (λ s. signed (Z.weights l s)) (Z.multiplier l)
    pub second_rule : (F : Facts) (l : ℕ) → (assumed₂.closes F l ≡ true)
        ↔ SecondRule P Z F (λ s. signed (Z.weights l s)) (Z.multiplier l)
    pub no_modulus : (m : ℕ) → (assumed₁.moduli m ≡ false) × (assumed₂.moduli m ≡ false)
    pub one_run : (assumed₁.runs ≡ 1) × (assumed₂.runs ≡ 1)

  -- ---- The claim

  -- What d shows by the weighed sum of the start c, fixed agents included: 1 if it is at least the limit, and 0 otherwise.
  pub record Decided (c d : List ℕ) : Type 0 where
    pub one : limit_of Z ≤ℤ weighed_sum P Z c → Shows P true d
    pub zero : weighed_sum P Z c <ℤ limit_of Z → Shows P false d

  -- An accepted sheet, from a start c of any size.
  pub record Decides (c : List ℕ) : Type 0 where
    -- Every list of rule numbers, layered or not, that ends at a standstill.
    pub lists : (rs : List ℕ) → terminal P (after P c rs) ≡ true → Decided c (after P c rs)
    -- Every list of step and run calls that ends at a standstill; the verdict call then says so.
    pub calls : (xs : List Call) → terminal P (last_on b c xs) ≡ true → Decided c (last_on b c xs)
    pub verdict_1 : admitted P c ≡ true → limit_of Z ≤ℤ weighed_sum P Z c → (xs : List Call) → terminal P (last_on b c xs) ≡ true
        → verdict_of b (last_on b c xs) ≡ Ok (Some true)
    pub verdict_0 : admitted P c ≡ true → weighed_sum P Z c <ℤ limit_of Z → (xs : List Call) → terminal P (last_on b c xs) ≡ true
        → verdict_of b (last_on b c xs) ≡ Ok (Some false)
    -- And every standstill that is potentially reachable (Definition 4.9 of the paper).
    pub potentially : (d : List ℕ) → ReachesPotentially P c d → terminal P d ≡ true → Decided c d
    -- One of the two cases holds.
    pub one_or_zero : (limit_of Z ≤ℤ weighed_sum P Z c) ⊎ (weighed_sum P Z c <ℤ limit_of Z)

  -- ---- Refusals

  pub record SheetRefusals : Type 0 where
    -- A refusal of the docket's check is passed back; 15, 0 just where the docket is accepted and a rule of the sheet's bytes is broken.
    pub passed_back : (r : Refusal) → check_of b ≡ Err r → check_sheet_of b y ≡ Err r
    pub refusal_15 : (check_sheet_of b y ≡ Err (refusal 15 0)) ↔ (IsAccepted b × (SheetSound → ⊥))
    -- With an accepted docket and sound bytes: the first tree's refusal; or, where the first tree stands, the second's, its nodes numbered
    -- on from the first's.
    pub refusal_is : IsAccepted b → SheetSound → (n k : ℕ) → (check_sheet_of b y ≡ Err (refusal n k))
        ↔ (TreeFails P assumed₁ Z.first n k
        ⊎ (TreeStands P assumed₁ Z.first × ((j : ℕ) × TreeFails P assumed₂ Z.second n j × (k ≡ K.first + j))))
    -- There is no other refusal; 12 and 13 are the only numbers of the trees, and their place is at most the number of all nodes.
    pub refusals : (r : Refusal) → check_sheet_of b y ≡ Err r → (check_of b ≡ Err r) ⊎ (r ≡ refusal 15 0)
        ⊎ (IsAccepted b × SheetSound × ((r.number ≡ 12) ⊎ (r.number ≡ 13)) × (r.place ≤ K.first + K.second))

  -- What C sees: 0 just for accepted, and the place of every refusal is below 65,536, so the code tells number and place.
  pub record SheetCodes : Type 0 where
    pub accepted : (check_code (check_sheet_of b y) ≡ 0) ↔ IsSheetAccepted
    pub refused : (r : Refusal) → check_sheet_of b y ≡ Err r → (check_code (check_sheet_of b y) ≡ code r) × (r.place < 65536)

-- The claims about claim sheets.
pub record OfSheet : Type 0 where
  -- Accepted just where the docket is and the sheet keeps every rule.
  pub exact : (b y : List ℕ) → IsSheetAccepted b y ↔ (IsAccepted b × SheetRules b y)
  pub leaf_rules : (b y : List ℕ) → LeafRules b y
  -- What its signed numbers are.
  pub reads : (b y : List ℕ) → SheetSound b y → Bytes y → Reads b y
  -- An accepted sheet says what every vote decides, for every start.
  pub decides : (b y : List ℕ) → IsSheetAccepted b y → (c : List ℕ) → Start (P b y) c → Decides b y c
  pub refusals : (b y : List ℕ) → SheetRefusals b y
  pub codes : (b y : List ℕ) → SheetCodes b y
