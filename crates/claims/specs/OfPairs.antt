-- What is proved of the number of pairs that the can-act call answers (document 02, Job 6). Statements only; proofs/OfPairs/ proves them.
use Rattle.std.specs.Prelude.{◌≡◌, Bool, true, false, List, ◌↔◌, ℕ, suc, ◌≤◌, ◌<◌, Ok}
use Rattle.theory.specs.Below.{sum_below}
use Rattle.theory.specs.Protocol.{Protocol, size, enabled}
use Rattle.theory.specs.Pairs.{pairs, Agents, pairs_among, rules_between}
use Rattle.theory.specs.Machine.{step, run, stepped, ran, refused, admitted}
use Rattle.format.specs.Format.{protocol_in}
use Rattle.format.specs.declared.Header.{Header}
use Rattle.shape.specs.Sound.{SoundShape}
use Rattle.machine.specs.Calls.{pairs_of, terminal_of, reply_of, counts_of}

module _ (b : List ℕ) (h : Header) where
  -- The protocol of the docket b with header h.
  abbrev P : Protocol
  P = protocol_in b h

  -- Of every rule the number is 0.
  abbrev pub NoPairs : List ℕ → Type 0
  NoPairs c = (r : ℕ) → r < h.sizes.rules → pairs_of b c r ≡ Ok 0

  -- The number that the call answers of counts c, for a rule r.
  pub record PairsTell (c : List ℕ) : Type 0 where
    -- It is as defined, the number of pairs of workers, one in p and the other in q: the same as counted pair by pair, however the
    -- workers are numbered.
    pub answers : (r : ℕ) → r < h.sizes.rules → pairs_of b c r ≡ Ok (pairs P c r)
    pub counted : (r : ℕ) → r < h.sizes.rules → (n : ℕ) (a : ℕ → ℕ) → Agents c n a → pairs_of b c r ≡ Ok (pairs_among n a (P.p r) (P.q r))
    -- The sum over all rules counts each pair of workers once for each rule by which the two could meet.
    pub sum_counted : (n : ℕ) (a : ℕ → ℕ) → Agents c n a
        → sum_below h.sizes.rules (pairs P c) ≡ sum_below n (λ j. sum_below j (λ i. rules_between P (a i) (a j)))
    -- 64 bits are enough: it is at most half of 1,000,000 times 999,999, for two states at most 500,000 times 500,000, and the sum
    -- over all rules is below 2 to the power 47.
    pub most : (r n : ℕ) → r < h.sizes.rules → pairs_of b c r ≡ Ok n → n ≤ 499999500000
    pub most_apart : (r n : ℕ) → r < h.sizes.rules → (P.p r ≡ P.q r → ⊥) → pairs_of b c r ≡ Ok n → n ≤ 250000000000
    pub sum_most : sum_below h.sizes.rules (pairs P c) < 140737488355328
    -- It is 0 just where the rule cannot act: then a step is refused with 24, and otherwise it makes its meeting.
    pub cannot_act : (r : ℕ) → r < h.sizes.rules → (pairs_of b c r ≡ Ok 0) ↔ (enabled P c r ≡ false)
    pub step_refused : (r : ℕ) → r < h.sizes.rules → (pairs_of b c r ≡ Ok 0) ↔ (reply_of b c (step r) ≡ refused 24 r)
    pub step_made : (r : ℕ) → r < h.sizes.rules → ((n : ℕ) × (pairs_of b c r ≡ Ok (suc n))) ↔ (reply_of b c (step r) ≡ stepped)
    -- The counts are a standstill just where it is 0 for every rule; and a run rests just where that is so of the counts it leaves.
    pub standstill : (terminal_of b c ≡ Ok true) ↔ NoPairs c
    pub run_rests : (limit n : ℕ) (rests : Bool) → reply_of b c (run limit) ≡ ran n rests → (rests ≡ true) ↔ NoPairs (counts_of b c (run limit))
    -- Rules with the same before pair have the same number.
    pub same_before : (r e : ℕ) → r < h.sizes.rules → e < h.sizes.rules → P.p r ≡ P.p e → P.q r ≡ P.q e → pairs_of b c r ≡ pairs_of b c e

-- The claims about the number of pairs.
pub record OfPairs : Type 0 where
  -- On a docket that passes tests 1 to 8, and counts that pass 20 and 21.
  pub tell : (b : List ℕ) (h : Header) → SoundShape b h → (c : List ℕ) → admitted (protocol_in b h) c ≡ true → PairsTell b h c
  -- The workers of every group can be numbered so, from 0 up to its size.
  pub some_agents : (c : List ℕ) → (a : ℕ → ℕ) × Agents c (size c) a
