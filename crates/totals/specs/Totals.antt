-- The sheet of exact totals (document 02, Job 9): every start with n agents besides the fixed ones is run until it rests.
use Rattle.std.specs.Prelude.{Bool, true, false, ◌||◌, List, [], ◌∷◌, ◌++◌, ℕ, ◌-◌, ◌≤◌, ltb, length, replicate, Ok, Err}
use Rattle.std.specs.Bool.{beq}
use Rattle.theory.specs.Bool.{bit}
use Rattle.theory.specs.Below.{sum_below, greatest, first_greatest}
use Rattle.theory.specs.Judge.{Test, only, judge}
use Rattle.theory.specs.Protocol.{Protocol, Output, agreed, mixed, output_of}
use Rattle.theory.specs.Ladder.{Layers}
use Rattle.theory.specs.Starts.{inputs_of, starts, start_at}
use Rattle.theory.specs.Machine.{rest_numbers, rest_of}
use Rattle.format.specs.Format.{header_of, protocol_in, layers_in, weight_in}
use Rattle.refusals.specs.declared.Refusal.{Refusal}
use Rattle.refusals.specs.Refusal.{refusal}
use Rattle.shape.specs.Shape.{outside}
use Rattle.checker.specs.Check.{check_of, on_accepted}
use Rattle.totals.specs.declared.Totals.{Totals}
use Rattle.totals.specs.declared.Sheet.{Sheet}

-- Whether this output is v.
abbrev pub is_agreed : Bool → Output → Bool
is_agreed v (agreed u) = beq u v
is_agreed v mixed = false

-- ---- The totals, of a protocol P with a ladder L, w

module _ (P : Protocol) (L : Layers) (w : ℕ → ℕ → ℕ) where
  -- The steps from c until it rests.
  unfoldable pub steps_to_rest : List ℕ → ℕ
  steps_to_rest c = length (rest_numbers P L w c)

  -- Whether c rests on v.
  unfoldable pub rests_on : Bool → List ℕ → Bool
  rests_on v c = is_agreed v (output_of P (rest_of P L w c))

  -- The starts with n agents besides the fixed ones.
  module _ (n : ℕ) where
    -- How many of the first k rest on v.
    unfoldable pub resting_on : Bool → ℕ → ℕ
    resting_on v k = sum_below k (λ i. bit (rests_on v (start_at P n i)))

    -- The steps of start i.
    unfoldable pub steps_at : ℕ → ℕ
    steps_at i = steps_to_rest (start_at P n i)

    -- The number of starts, how many rest on 0 and how many on 1, and the greatest step total. The answer also has the number of states.
    abbrev pub totals_of : Totals
    totals_of =
        let number = length (starts P n) in
        record {
          states = P.states;
          starts = number;
          zeros = resting_on false number;
          ones = resting_on true number;
          most = greatest number steps_at;
        }

    -- The first start that needs the greatest step total.
    unfoldable pub first_most : List ℕ
    first_most = start_at P n (first_greatest (length (starts P n)) steps_at)

-- ---- What the call answers

-- A sheet without totals.
abbrev pub refused_sheet : Refusal → Sheet
refused_sheet r = record { tallied = Err r; first = replicate 64 0 }

-- Test 34: more than eight inputs, or n outside 2 to 12.
abbrev pub beyond : ℕ → ℕ → Bool
beyond inputs n = ltb 8 inputs || outside 2 12 n

abbrev pub totals_tests : Protocol → ℕ → List Test
totals_tests P n = only 34 (beyond (inputs_of P) n) ∷ []

-- There are at most eight inputs, and n is 2 to 12.
pub record Allowed (P : Protocol) (n : ℕ) : Type 0 where
  pub inputs : inputs_of P ≤ 8
  pub least : 2 ≤ n
  pub most : n ≤ 12

module _ (P : Protocol) (L : Layers) (w : ℕ → ℕ → ℕ) (n : ℕ) where
  -- The totals, and the first start that needs the greatest step total, with 0 behind it up to 64 counts.
  abbrev pub full_sheet : Sheet
  full_sheet = record { tallied = Ok (totals_of P L w n); first = first_most P L w n ++ replicate (64 - P.states) 0 }

  -- The answer for an accepted docket.
  unfoldable pub sheet_in : Sheet
  sheet_in = judge (λ m k. refused_sheet (refusal m k)) full_sheet (totals_tests P n)

-- The answer for a docket with bytes b: the whole check first, then 34. The protocol is looked at only where the docket is accepted, so
-- its header passes tests 1 to 4.
unfoldable pub sheet_of : List ℕ → ℕ → Sheet
sheet_of b n = let h = header_of b in on_accepted refused_sheet (sheet_in (protocol_in b h) (layers_in b h) (weight_in b h) n) (check_of b)
