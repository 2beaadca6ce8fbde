-- The samples P1 to P12 of document 01, and samples of document 02. They hold: Samples in proofs/.
use Rattle.std.specs.Prelude.{Result}
use Rattle.checker.specs.declared.Summary.{Summary}
use Rattle.refusals.specs.declared.Refusal.{Refusal}
use Rattle.refusals.specs.Refusal.{refusal}
use Rattle.totals.specs.declared.Totals.{Totals}
use Rattle.std.specs.Prelude.{◌≡◌, Bool, true, false, List, [], ◌∷◌, ◌++◌, ℕ, ◌-◌, ◌≤◌, length, take, set, replicate, Ok, Err, Some}
use Rattle.theory.specs.Machine.{run, ran}
use Rattle.format.specs.Format.{header_of, Sections}
use Rattle.format.specs.Samples.{broadcast, majority, two_outcomes, parity, seeded, quorum}
use Rattle.checker.specs.Check.{check_of}
use Rattle.writer.specs.Write.{write_of, output_of}
use Rattle.writer.specs.Samples.{parts}
use Rattle.machine.specs.Calls.{start_of, pairs_of, verdict_of, reply_of, counts_of}
use Rattle.page.specs.Page.{page_of, counts_after_page, results_after_page}
use Rattle.totals.specs.Totals.{sheet_of}
use Rattle.sheet.specs.Samples.{broadcast_sheet, quorum_sheet}
use Rattle.sheet.specs.Sheet.{check_sheet_of}
use Rattle.claims.specs.OfVersions.{in_version2}
use Rattle.claims.specs.Dockets.{cut, longer, exchanged, without_absent, one_layer, input_fixed}

-- A sample: what the check says of a docket; what a run with the greatest limit does from given counts; what the check says
-- whatever the weights; what the writer of a version says of sections, and what it leaves in the output; what the start test
-- says; what the can-act call says of a rule number; what a page with this limit says, and the counts and results that it leaves; what
-- the sheet of totals with so many agents says, and the start that it shows; what the check of a docket with a claim sheet says.
pub data Sample : Type 0 where
  says : List ℕ → Result Summary Refusal → Sample
  rests : List ℕ → List ℕ → ℕ → List ℕ → Bool → Sample
  refuses : (ℕ → ℕ → ℕ → ℕ → List ℕ) → ℕ → Sample
  writes : ℕ → Sections → List ℕ → Result ℕ Refusal → List ℕ → Sample
  starts : List ℕ → List ℕ → Result (Unit {0}) Refusal → Sample
  meets : List ℕ → List ℕ → ℕ → Result ℕ Refusal → Sample
  pages : List ℕ → List ℕ → ℕ → List ℕ → Result (Unit {0}) Refusal → List ℕ → List ℕ → Sample
  tallies : List ℕ → ℕ → Result Totals Refusal → List ℕ → Sample
  decides : List ℕ → List ℕ → Result (Unit {0}) Refusal → Sample

abbrev pub Holds : Sample → Type 0
-- The check of b answers a.
Holds (says b a) = check_of b ≡ a
-- A run on b from the counts c makes n steps, rests, and leaves the counts d with verdict v.
Holds (rests b c n d v) =
    let x = run 4294967295 in
    (reply_of b c x ≡ ran n true) × (counts_of b c x ≡ d) × (verdict_of b d ≡ Ok (Some v))
-- For all weights within their limits the check of the docket with these weights refuses by number n, at some rule.
Holds (refuses b n) =
    (x y z t : ℕ) → x ≤ 1000000 → y ≤ 1000000 → z ≤ 1000000 → t ≤ 1000000
    → (k : ℕ) × (check_of (b x y z t) ≡ Err (refusal n k))
-- The writer, told the version v and lent the sections x and the output out, answers a and leaves d.
Holds (writes v x out a d) = (write_of v x (length out) ≡ a) × (output_of v x out ≡ d)
-- The start test on b of the counts c answers a.
Holds (starts b c a) = start_of b c ≡ a
-- The can-act call on b, of the counts c and rule number r, answers a.
Holds (meets b c r a) = pairs_of b c r ≡ a
-- The page call on b, of the counts c and the results r, answers a and leaves d and e.
Holds (pages b c limit r a d e) = (page_of b c r ≡ a) × (counts_after_page b c limit r ≡ d) × (results_after_page b c limit r ≡ e)
-- The sheet of totals of b with n agents says a and shows the counts c, with 0 behind them.
Holds (tallies b n a c) = ((sheet_of b n).tallied ≡ a) × ((sheet_of b n).first ≡ c ++ replicate (64 - length c) 0)
-- The check of b with the claim sheet y answers a.
Holds (decides b y a) = check_sheet_of b y ≡ a

abbrev pub AllHold : List Sample → Type 0
AllHold [] = Unit {0}
AllHold (s ∷ ss) = Holds s × AllHold ss

-- P1 to P12 in turn; P12 is two, with and without B absent.
abbrev pub samples : List Sample
samples =
    says broadcast (Ok (record { states = 2; rules = 1; layers = 1; nodes = 5; spreads = 1; widest = 1 }))  -- P1
    ∷ says (take 98 broadcast) (Err (refusal 1 0))  -- P2
    ∷ says (set broadcast 31 0) (Err (refusal 9 0))  -- P3
    ∷ says (set broadcast 67 4) (Err (refusal 12 2))  -- P4
    ∷ says (set broadcast 67 1) (Err (refusal 13 2))  -- P5
    ∷ says cut (Err (refusal 12 4))  -- P6
    ∷ says longer (Err (refusal 12 5))  -- P7
    ∷ rests majority (2 ∷ 1 ∷ 0 ∷ 0 ∷ []) 2 (1 ∷ 0 ∷ 2 ∷ 0 ∷ []) false  -- P8
    ∷ rests majority (1 ∷ 1 ∷ 0 ∷ 0 ∷ []) 2 (0 ∷ 0 ∷ 0 ∷ 2 ∷ []) true  -- P9
    ∷ says exchanged (Err (refusal 10 0))  -- P10
    ∷ refuses one_layer 9  -- P11
    ∷ says majority (Ok (record { states = 4; rules = 4; layers = 2; nodes = 17; spreads = 2; widest = 2 }))  -- P12
    ∷ says without_absent (Err (refusal 13 9))  -- P12
    ∷ []

-- Samples of document 02. Job 1: a pair with two outcomes, and the same with rule 1 equal to rule 0. Job 2: parity; then with
-- the moduli 3, 1, 1,001 (3 × 256 + 233) and 2 + 2^32 at node 12; and with argument 2 at node 7, where O is not known to hold
-- exactly one agent. Job 3: the sections of broadcast, written into 101 bytes and into 98; and with the last byte of a node cut,
-- where 97 bytes are too few as well.
abbrev pub requested : List Sample
requested =
    says two_outcomes (Ok (record { states = 3; rules = 3; layers = 1; nodes = 7; spreads = 1; widest = 2 }))  -- Job 1
    ∷ says (set two_outcomes 35 1) (Err (refusal 7 1))  -- Job 1
    ∷ says parity (Ok (record { states = 4; rules = 5; layers = 3; nodes = 18; spreads = 3; widest = 4 }))  -- Job 2
    ∷ says (set parity 249 3) (Err (refusal 13 12))  -- Job 2
    ∷ says (set parity 249 1) (Err (refusal 12 12))  -- Job 2
    ∷ says (set (set parity 249 233) 250 3) (Err (refusal 12 12))  -- Job 2
    ∷ says (set parity 253 1) (Err (refusal 12 12))  -- Job 2
    ∷ says (set parity 187 2) (Err (refusal 13 12))  -- Job 2
    ∷ writes 1 (parts broadcast) (replicate 101 170) (Ok 99) (broadcast ++ 170 ∷ 170 ∷ [])  -- Job 3
    ∷ writes 1 (parts broadcast) (replicate 98 170) (Err (refusal 30 0)) (replicate 98 170)  -- Job 3
    ∷ writes 1 (parts (take 98 broadcast)) (replicate 97 170) (Err (refusal 31 3)) (replicate 97 170)  -- Job 3
    ∷ []

-- Samples of document 02, Job 4: parity with three agents fixed in O, and with two; a vote that needs one agent in K0, with two
-- there, with none, and with K0 an input; two agents fixed in an input, and one; then 1,001 agents, and no inputs. Parity is
-- written in version 2, and refused in version 3.
abbrev pub with_fixed : List Sample
with_fixed =
    says seeded (Ok (record { states = 4; rules = 5; layers = 3; nodes = 5; spreads = 3; widest = 0 }))
    ∷ says (set seeded 25 2) (Err (refusal 13 1))
    ∷ says quorum (Ok (record { states = 6; rules = 3; layers = 1; nodes = 23; spreads = 2; widest = 3 }))
    ∷ says (set quorum 31 2) (Err (refusal 13 11))
    ∷ says (set quorum 31 0) (Err (refusal 13 9))
    ∷ says (set quorum 30 2) (Err (refusal 13 11))
    ∷ says input_fixed (Ok (record { states = 2; rules = 4; layers = 2; nodes = 6; spreads = 2; widest = 0 }))
    ∷ says (set input_fixed 25 1) (Err (refusal 13 4))
    ∷ says (set (set quorum 31 233) 32 3) (Err (refusal 5 2))
    ∷ says (set (set quorum 24 1) 27 0) (Err (refusal 5 6))
    ∷ writes 2 (parts seeded) (replicate 186 170) (Ok 185) (seeded ++ 170 ∷ [])
    ∷ writes 3 (parts seeded) (replicate 186 170) (Err (refusal 2 0)) (replicate 186 170)
    ∷ []

-- And starts: the fixed agent is there, is not, there are two, there are no agents at all; and of an input with two fixed agents
-- one, two and five.
abbrev pub fixed_starts : List Sample
fixed_starts =
    starts quorum (2 ∷ 1 ∷ 1 ∷ 0 ∷ 0 ∷ 0 ∷ []) (Ok tt)
    ∷ starts quorum (2 ∷ 1 ∷ 0 ∷ 0 ∷ 0 ∷ 0 ∷ []) (Err (refusal 22 2))
    ∷ starts quorum (2 ∷ 1 ∷ 2 ∷ 1 ∷ 0 ∷ 0 ∷ []) (Err (refusal 22 2))
    ∷ starts quorum (0 ∷ 0 ∷ 0 ∷ 0 ∷ 0 ∷ 0 ∷ []) (Err (refusal 21 0))
    ∷ starts (set seeded 28 2) (3 ∷ 1 ∷ 0 ∷ 0 ∷ []) (Err (refusal 22 1))
    ∷ starts (set seeded 28 2) (3 ∷ 2 ∷ 0 ∷ 0 ∷ []) (Ok tt)
    ∷ starts (set seeded 28 2) (3 ∷ 5 ∷ 0 ∷ 0 ∷ []) (Ok tt)
    ∷ []

-- Samples of document 02, Job 5: rules 0 and 1 of the docket with two outcomes exchanged, in version 1 and in version 2; of parity
-- with fixed agents, rule 0 changed so that it belongs behind rule 1, the last rule moved to layer 0, which leaves layer 2 empty,
-- and rule 2 again in layer 1. The start test refuses as the check does, and the writer sorts in neither version.
abbrev another_order : List ℕ
another_order = set (set two_outcomes 30 2) 35 1

abbrev pub rules_in_order : List Sample
rules_in_order =
    says another_order (Ok (record { states = 3; rules = 3; layers = 1; nodes = 7; spreads = 1; widest = 2 }))
    ∷ says (in_version2 another_order (header_of another_order)) (Err (refusal 14 1))
    ∷ says (set seeded 37 2) (Err (refusal 14 1))
    ∷ says (set seeded 60 0) (Err (refusal 14 4))
    ∷ says (set (set (set (set seeded 51 1) 52 1) 53 1) 54 3) (Err (refusal 7 3))
    ∷ starts (set seeded 37 2) [] (Err (refusal 14 1))
    ∷ writes 2 (parts (set seeded 37 2)) (replicate 186 170) (Err (refusal 14 1)) (replicate 186 170)
    ∷ writes 1 (parts another_order) (replicate 139 170) (Ok 138) (another_order ++ 170 ∷ [])
    ∷ []

-- Samples of document 02, Job 6. In parity, rule 0 meets O with O, rule 1 O with E, rule 3 O with e: four agents in O, one, none; the
-- greatest number of one state, the greatest of two, and one whose lowest 32 bits are 0; then refusals. Rules 0 and 1 of the docket
-- with two outcomes have the same before pair.
abbrev pub pairs_counted : List Sample
pairs_counted =
    meets parity (4 ∷ 3 ∷ 0 ∷ 0 ∷ []) 0 (Ok 6)
    ∷ meets parity (4 ∷ 3 ∷ 0 ∷ 0 ∷ []) 1 (Ok 12)
    ∷ meets parity (4 ∷ 3 ∷ 0 ∷ 0 ∷ []) 3 (Ok 0)
    ∷ meets parity (1 ∷ 1 ∷ 0 ∷ 0 ∷ []) 0 (Ok 0)
    ∷ meets parity (0 ∷ 2 ∷ 0 ∷ 0 ∷ []) 0 (Ok 0)
    ∷ meets parity (1000000 ∷ 0 ∷ 0 ∷ 0 ∷ []) 0 (Ok 499999500000)
    ∷ meets parity (500000 ∷ 500000 ∷ 0 ∷ 0 ∷ []) 1 (Ok 250000000000)
    ∷ meets parity (65536 ∷ 65536 ∷ 0 ∷ 0 ∷ []) 1 (Ok 4294967296)
    ∷ meets parity (4 ∷ 3 ∷ 0 ∷ 0 ∷ []) 5 (Err (refusal 23 5))
    ∷ meets parity (1000000 ∷ 1 ∷ 0 ∷ 0 ∷ []) 5 (Err (refusal 21 0))
    ∷ meets parity (4 ∷ 3 ∷ 0 ∷ []) 5 (Err (refusal 20 0))
    ∷ meets two_outcomes (2 ∷ 3 ∷ 0 ∷ []) 0 (Ok 6)
    ∷ meets two_outcomes (2 ∷ 3 ∷ 0 ∷ []) 1 (Ok 6)
    ∷ []

-- Samples of document 02, Job 8, on majority: the groups of P8 and P9 with one of a single agent between them and one at a standstill
-- behind them; the first again with the limits 1 and 0; then 32, of counts one too many, of none, and before 33; 33; and a refusal of
-- test 1.
abbrev pub pages_run : List Sample
pages_run =
    pages majority (2 ∷ 1 ∷ 0 ∷ 0 ∷ 1 ∷ 0 ∷ 0 ∷ 0 ∷ 1 ∷ 1 ∷ 0 ∷ 0 ∷ 0 ∷ 3 ∷ 0 ∷ 0 ∷ []) 6 (replicate 8 7) (Ok tt)
    (1 ∷ 0 ∷ 2 ∷ 0 ∷ 1 ∷ 0 ∷ 0 ∷ 0 ∷ 0 ∷ 0 ∷ 0 ∷ 2 ∷ 0 ∷ 3 ∷ 0 ∷ 0 ∷ []) (0 ∷ 5 ∷ 21 ∷ 0 ∷ 0 ∷ 5 ∷ 0 ∷ 1 ∷ [])
    ∷ pages majority (2 ∷ 1 ∷ 0 ∷ 0 ∷ []) 1 (replicate 2 7) (Ok tt) (1 ∷ 0 ∷ 1 ∷ 1 ∷ []) (0 ∷ 2 ∷ [])
    ∷ pages majority (2 ∷ 1 ∷ 0 ∷ 0 ∷ []) 0 (replicate 2 7) (Ok tt) (2 ∷ 1 ∷ 0 ∷ 0 ∷ []) (0 ∷ 0 ∷ [])
    ∷ pages majority (2 ∷ 1 ∷ 0 ∷ 0 ∷ 2 ∷ []) 6 (replicate 2 7) (Err (refusal 32 0)) (2 ∷ 1 ∷ 0 ∷ 0 ∷ 2 ∷ []) (replicate 2 7)
    ∷ pages majority [] 6 [] (Err (refusal 32 0)) [] []
    ∷ pages majority (2 ∷ 1 ∷ 0 ∷ []) 6 (replicate 3 7) (Err (refusal 32 0)) (2 ∷ 1 ∷ 0 ∷ []) (replicate 3 7)
    ∷ pages majority (2 ∷ 1 ∷ 0 ∷ 0 ∷ []) 6 (replicate 3 7) (Err (refusal 33 0)) (2 ∷ 1 ∷ 0 ∷ 0 ∷ []) (replicate 3 7)
    ∷ pages (take 98 broadcast) (2 ∷ 1 ∷ []) 6 (replicate 2 7) (Err (refusal 1 0)) (2 ∷ 1 ∷ []) (replicate 2 7)
    ∷ []

-- The totals with these figures.
abbrev totals : ℕ → ℕ → ℕ → ℕ → ℕ → Result Totals Refusal
totals s n z o m = Ok (record { states = s; starts = n; zeros = z; ones = o; most = m })

-- Samples of document 02, Job 9: majority with two workers and with three, of which 1 2 0 0 takes as many steps as 2 1 0 0, the first of
-- the two; broadcast with three; a vote with a fixed worker in state 2, and two workers besides; then no worker, one, thirteen, a docket that is
-- refused, and no bytes.
abbrev pub sheets_counted : List Sample
sheets_counted =
    tallies majority 2 (totals 4 3 1 2 2) (1 ∷ 1 ∷ 0 ∷ 0 ∷ [])
    ∷ tallies majority 3 (totals 4 4 2 2 2) (2 ∷ 1 ∷ 0 ∷ 0 ∷ [])
    ∷ tallies broadcast 3 (totals 2 4 1 3 2) (2 ∷ 1 ∷ [])
    ∷ tallies quorum 2 (totals 6 3 2 1 4) (2 ∷ 0 ∷ 1 ∷ 0 ∷ 0 ∷ 0 ∷ [])
    ∷ tallies majority 0 (Err (refusal 34 0)) []
    ∷ tallies majority 1 (Err (refusal 34 0)) []
    ∷ tallies majority 13 (Err (refusal 34 0)) []
    ∷ tallies (set broadcast 67 1) 13 (Err (refusal 13 2)) []
    ∷ tallies [] 2 (Err (refusal 1 0)) []
    ∷ []

-- Samples of document 02, Job 10: broadcast with its sheet; with the limits 0 and 2, which the first and the second tree do not prove; with
-- the last byte cut, and with the multiplier 10,001; a node of kind 7, and the last node of the second tree that needs another; the sheet
-- with a docket that is refused, and cut as well. Quorum with its sheet; with a number at K0, which is no input; with two agents fixed in
-- K0, where the docket's own check refuses; and the sheet of broadcast with quorum.
abbrev pub sheets_claimed : List Sample
sheets_claimed =
    decides broadcast broadcast_sheet (Ok tt)
    ∷ decides broadcast (set broadcast_sheet 20 0) (Err (refusal 13 3))
    ∷ decides broadcast (set broadcast_sheet 20 2) (Err (refusal 13 7))
    ∷ decides broadcast (take 125 broadcast_sheet) (Err (refusal 15 0))
    ∷ decides broadcast (set (set broadcast_sheet 124 17) 125 39) (Err (refusal 15 0))
    ∷ decides broadcast (set (set broadcast_sheet 60 7) 64 2) (Err (refusal 12 3))
    ∷ decides broadcast (set broadcast_sheet 108 4) (Err (refusal 12 8))
    ∷ decides (set broadcast 31 0) broadcast_sheet (Err (refusal 9 0))
    ∷ decides (set broadcast 31 0) (take 125 broadcast_sheet) (Err (refusal 9 0))
    ∷ decides quorum quorum_sheet (Ok tt)
    ∷ decides quorum (set quorum_sheet 20 1) (Err (refusal 15 0))
    ∷ decides (set quorum 31 2) quorum_sheet (Err (refusal 13 11))
    ∷ decides quorum broadcast_sheet (Err (refusal 15 0))
    ∷ []
