-- What is proved of the sheet of exact totals (document 02, Job 9), for every docket with bytes b and every n. Statements only;
-- proofs/OfTotals/ proves them. The contract of the code says that the call answers sheet_of b n; what the program prints of it is tested.
use Rattle.refusals.specs.declared.Refusal.{Refusal}
use Rattle.refusals.specs.Refusal.{refusal}
use Rattle.std.specs.Prelude.{◌≡◌, Bool, true, false, List, map, ◌↔◌, ◌⊎◌, ℕ, suc, ◌+◌, ◌-◌, ◌*◌, ◌≤◌, ◌<◌, length, take, drop, replicate, Ok, Err}
use Rattle.std.specs.Bool.{beq}
use Rattle.theory.specs.Bool.{bit}
use Rattle.theory.specs.Below.{sum_below}
use Rattle.theory.specs.Protocol.{Protocol, count, size, terminal, Shows, Start, after}
use Rattle.theory.specs.Ladder.{Layers, spreads}
use Rattle.theory.specs.Starts.{binomial, inputs_of, fixed_total, starts, start_at}
use Rattle.theory.specs.Machine.{run, admitted, run_numbers, rest_numbers, rest_of}
use Rattle.format.specs.Format.{header_of, protocol_in, layers_in, weight_in}
use Rattle.checker.specs.Check.{check_of}
use Rattle.totals.specs.Totals.{steps_to_rest, rests_on, Allowed, sheet_of}
use Rattle.totals.specs.declared.Totals.{Totals}
use Rattle.claims.specs.OfDocket.{IsAccepted, last_on, reported_on}

-- ---- The starts

module _ (P : Protocol) (n : ℕ) where
  -- The list of starts is that of the document.
  pub record StartsAre : Type 0 where
    -- Each member is a start with n agents besides the fixed ones, and every such start is a member, at one place alone.
    pub only : (k : ℕ) → k < length (starts P n) → Start P (start_at P n k) × (size (start_at P n k) ≡ n + fixed_total P)
    pub all : (c : List ℕ) → Start P c → size c ≡ n + fixed_total P → (k : ℕ) × (k < length (starts P n)) × (start_at P n k ≡ c)
    pub once : (i j : ℕ) → i < length (starts P n) → j < length (starts P n) → start_at P n i ≡ start_at P n j → i ≡ j
    -- Of two starts the one that has more in the first input in which they differ comes first.
    pub descending : (i j : ℕ) → i < j → j < length (starts P n) → (s : ℕ) × (s < P.states) × (P.input s ≡ true)
        × ((r : ℕ) → r < s → count (start_at P n i) r ≡ count (start_at P n j) r) × (count (start_at P n j) s < count (start_at P n i) s)
    -- With i + 1 inputs there are as many as ways to choose i of n + i; so at most 50,388 with eight inputs and n of 12, or fewer.
    pub number : (i : ℕ) → inputs_of P ≡ suc i → length (starts P n) ≡ binomial (n + i) i
    pub at_most : inputs_of P ≤ 8 → n ≤ 12 → length (starts P n) ≤ 50388

-- ---- What the call answers

module _ (b : List ℕ) where
  -- The protocol, the layers and the weights of the docket.
  abbrev P : Protocol
  P = protocol_in b (header_of b)

  abbrev L : Layers
  L = layers_in b (header_of b)

  abbrev w : ℕ → ℕ → ℕ
  w = weight_in b (header_of b)

  pub record SheetAnswers (n : ℕ) : Type 0 where
    -- The totals just where the docket is accepted, at most eight states are inputs and n is 2 to 12; a refusal of the check is passed
    -- back; 34 just where the docket is accepted and the rest is not so.
    pub counted_is : ((t : Totals) × ((sheet_of b n).tallied ≡ Ok t)) ↔ (IsAccepted b × Allowed P n)
    pub passed_back : (r : Refusal) → check_of b ≡ Err r → (sheet_of b n).tallied ≡ Err r
    pub refusal_34 : ((sheet_of b n).tallied ≡ Err (refusal 34 0)) ↔ (IsAccepted b × (Allowed P n → ⊥))
    -- There is no other refusal.
    pub refusals : (r : Refusal) → (sheet_of b n).tallied ≡ Err r → (check_of b ≡ Err r) ⊎ (r ≡ refusal 34 0)
    -- A refused sheet shows no counts.
    pub no_counts : (r : Refusal) → (sheet_of b n).tallied ≡ Err r → (sheet_of b n).first ≡ replicate 64 0

  -- ---- What is counted

  -- What becomes of a start c.
  pub record StartRests (c : List ℕ) : Type 0 where
    -- No call refuses its counts by 20 or 21; it has at most 64,012 agents.
    pub passes : admitted P c ≡ true
    pub small : size c ≤ 64012
    -- It comes to rest, within the rest bound.
    pub rests : terminal P (rest_of P L w c) ≡ true
    pub bound : steps_to_rest P L w c ≤ size c * spreads P L w
    -- Its rule numbers are those of a run, of any limit that is not less than its steps.
    pub is_run : (limit : ℕ) → steps_to_rest P L w c ≤ limit → run_numbers P L limit c ≡ rest_numbers P L w c
    -- So many run calls on it with one limit, as the greatest of 32 bits, leave a standstill; and run calls that do, whatever their
    -- limits, leave the same counts and report as many steps.
    pub reaches : (limit : ℕ) → 0 < limit → (k : ℕ) × (terminal P (last_on b c (map run (replicate k limit))) ≡ true)
    pub by_calls : (limits : List ℕ) → terminal P (last_on b c (map run limits)) ≡ true
        → (last_on b c (map run limits) ≡ rest_of P L w c) × (reported_on b c (map run limits) ≡ steps_to_rest P L w c)
    -- It has one output (document 01: verdict): every list of rule numbers that ends terminal shows it, layered or not. It is counted for
    -- this output and not for the other.
    pub output : Bool
    pub shows : (rs : List ℕ) → terminal P (after P c rs) ≡ true → Shows P output (after P c rs)
    pub counted : (v : Bool) → rests_on P L w v c ≡ beq output v

  -- The totals t of the starts with n agents besides the fixed ones, and the counts `first` of one of them.
  pub record TotalsAre (n : ℕ) (t : Totals) (first : List ℕ) : Type 0 where
    pub states : t.states ≡ P.states
    pub number : t.starts ≡ length (starts P n)
    pub each : (k : ℕ) → k < t.starts → StartRests (start_at P n k)
    -- How many rest on 0, how many on 1; together they are all.
    pub zeros : t.zeros ≡ sum_below t.starts (λ k. bit (rests_on P L w false (start_at P n k)))
    pub ones : t.ones ≡ sum_below t.starts (λ k. bit (rests_on P L w true (start_at P n k)))
    pub together : t.zeros + t.ones ≡ t.starts
    -- No start takes more steps than the greatest step total, the one at this place takes as many, and each before it takes fewer. It is
    -- at most 64,012 times 16,000,000, so 64 bits are enough.
    pub most : (k : ℕ) → k < t.starts → steps_to_rest P L w (start_at P n k) ≤ t.most
    pub place : ℕ
    pub within : place < t.starts
    pub needs : steps_to_rest P L w (start_at P n place) ≡ t.most
    pub earlier : (k : ℕ) → k < place → steps_to_rest P L w (start_at P n k) < t.most
    pub most_small : t.most ≤ 1024192000000
    -- The counts are those of this start, and 0 behind them.
    pub counts : take P.states first ≡ start_at P n place
    pub behind : drop P.states first ≡ replicate (64 - P.states) 0

-- The claims about totals.
pub record OfTotals : Type 0 where
  pub starts_are : (P : Protocol) (n : ℕ) → 2 ≤ n → StartsAre P n
  pub answers : (b : List ℕ) (n : ℕ) → SheetAnswers b n
  pub totals_are : (b : List ℕ) (n : ℕ) (t : Totals) → (sheet_of b n).tallied ≡ Ok t → TotalsAre b n t (sheet_of b n).first
