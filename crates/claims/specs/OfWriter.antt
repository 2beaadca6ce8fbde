-- What is proved of the writer (document 02, Jobs 3 to 5), for every version v, all sections x, which document 02 calls parts,
-- and every output `out`. Statements only; proofs/OfWriter/ proves them. The contracts of the code say that the writer answers write_of v
-- x (length out) and leaves output_of v x out in the output.
use Rattle.refusals.specs.declared.Refusal.{Refusal}
use Rattle.refusals.specs.Refusal.{refusal}
use Rattle.std.specs.Prelude.{◌≡◌, true, List, [], ◌∷◌, ◌++◌, ◌↔◌, ◌⊎◌, ℕ, ◌+◌, ◌*◌, ◌≤◌, ◌<◌, length, take, drop, Ok, Err}
use Rattle.theory.specs.Below.{Clear}
use Rattle.theory.specs.Judge.{Passes, FirstFits}
use Rattle.format.specs.Format.{header_of, state_width, Sections, sections_of}
use Rattle.format.specs.declared.Header.{Header}
use Rattle.shape.specs.Shape.{nth, version_test, count_test}
use Rattle.shape.specs.Sound.{IsVersion, SoundShape}
use Rattle.leaf.specs.Leaf.{leaf_test}
use Rattle.checker.specs.Check.{check_of}
use Rattle.writer.specs.Write.{lengths_of, length_faults, sizes_in, WholeRecords, AreBytes, header_for, docket_of}
use Rattle.writer.specs.Write.{length_test, record_tests, write_tests, write_of, output_of}
use Rattle.codes.specs.Codes.{answer_code}
use Rattle.claims.specs.OfDocket.{LeafWeights}

-- The bytes b, with header h, pass tests 1 to 8 and 11.
pub record Readable (b : List ℕ) (h : Header) : Type 0 where
  pub shape : SoundShape b h
  pub leaf_weights : LeafWeights b h

module _ (v : ℕ) (x : Sections) (out : List ℕ) where
  -- What the writer answers.
  pub record Answers : Type 0 where
    -- The total, which is the docket's length, just where all tests pass; else the refusal that is the first of tests 2, 31, 3,
    -- 5, 6, 7, 14, 8, 11 and 30 to fit, at its lowest place.
    pub total_is : (n : ℕ) → (write_of v x (length out) ≡ Ok n) ↔ (Passes (write_tests v x (length out)) × (n ≡ length (docket_of v x)))
    pub refusal_is : (n k : ℕ) → (write_of v x (length out) ≡ Err (refusal n k)) ↔ FirstFits (write_tests v x (length out)) n k
    -- 2, at place 0, just where the version is neither 1 nor 2, whatever else is wrong.
    pub refusal_2 : (k : ℕ) → (write_of v x (length out) ≡ Err (refusal 2 k)) ↔ ((k ≡ 0) × (IsVersion v → ⊥))
    -- Of version 1 or 2: 31 just at the lowest section whose length is no whole number of records, whatever else is
    -- wrong; and not at all just where all records are whole.
    pub refusal_31 : IsVersion v → (k : ℕ) → let fault = nth (length_faults v (lengths_of x)) in
        (write_of v x (length out) ≡ Err (refusal 31 k)) ↔ ((k < 5) × (fault k ≡ true) × Clear fault k)
    pub no_31 : IsVersion v → ((k : ℕ) → write_of v x (length out) ≡ Err (refusal 31 k) → ⊥) ↔ WholeRecords v x
    -- 30, at place 0, just where all other tests pass and the output is shorter than the docket.
    pub refusal_30 : (k : ℕ) → (write_of v x (length out) ≡ Err (refusal 30 k))
        ↔ ((k ≡ 0) × Passes (version_test v ∷ length_test v x ∷ count_test (sizes_in v x) ∷ record_tests (sizes_in v x) x) × (length out < length (docket_of v x)))
    -- In C: 0 just where a docket is written. The place of a refusal is below 65,536, so the code tells number and place.
    pub code : (answer_code (write_of v x (length out)) ≡ 0) ↔ ((n : ℕ) × (write_of v x (length out) ≡ Ok n))
    pub place : (n k : ℕ) → write_of v x (length out) ≡ Err (refusal n k) → k < 65536

  -- What has been written, the total being n.
  pub record Wrote (n : ℕ) : Type 0 where
    -- The total is 24 plus the five lengths, and at most 62,808 in version 1 and 62,936 in version 2.
    pub total_sum : n ≡ 24 + length x.states + length x.rules + length x.layers + length x.nodes + length x.leaves
    pub total_most : n ≤ 62744 + 64 * state_width v
    -- The first n bytes of the output are the docket of x, of the version v; what stood behind them stays.
    pub room : n ≤ length out
    pub docket : take n (output_of v x out) ≡ docket_of v x
    pub rest_stays : drop n (output_of v x out) ≡ drop n out
    -- Read again, these bytes pass tests 1 to 8 and 11, and have the sections x.
    pub header : header_of (take n (output_of v x out)) ≡ header_for (sizes_in v x)
    pub readable : let b = take n (output_of v x out) in Readable b (header_of b)
    pub same_sections : let b = take n (output_of v x out) in sections_of b (header_of b) ≡ x
    -- So the check refuses them, if it does, for their ladder or their tree.
    pub check_says : (m k : ℕ) → check_of (take n (output_of v x out)) ≡ Err (refusal m k)
        → (m ≡ 9) ⊎ (m ≡ 10) ⊎ (m ≡ 12) ⊎ (m ≡ 13)

-- The claims about the writer.
pub record OfWriter : Type 0 where
  pub answers : (v : ℕ) (x : Sections) (out : List ℕ) → Answers v x out
  pub writes : (v : ℕ) (x : Sections) (out : List ℕ) (n : ℕ) → write_of v x (length out) ≡ Ok n → Wrote v x out n
  -- A refusal leaves the output as it was.
  pub unchanged : (v : ℕ) (x : Sections) (out : List ℕ) (r : Refusal) → write_of v x (length out) ≡ Err r → output_of v x out ≡ out
  -- The sections of a docket that passes tests 1 to 8 and 11 are written, in its version, as its bytes where there is room for
  -- them, and refused by 30 where there is not.
  pub writes_again : (b : List ℕ) → AreBytes b → (h : Header) → Readable b h → (out : List ℕ) → length b ≤ length out
      → (write_of h.sizes.version (sections_of b h) (length out) ≡ Ok (length b))
      × (output_of h.sizes.version (sections_of b h) out ≡ b ++ drop (length b) out)
  pub no_room_again : (b : List ℕ) → AreBytes b → (h : Header) → Readable b h → (out : List ℕ) → length out < length b
      → write_of h.sizes.version (sections_of b h) (length out) ≡ Err (refusal 30 0)
  -- Leaf weights are within their limits just where test 11 passes.
  pub leaf_weights_is : (b : List ℕ) (h : Header) → LeafWeights b h ↔ Passes (leaf_test h.sizes (sections_of b h).leaves ∷ [])
