-- Sections, what the writer says of them, and what it writes, by computation.
use Rattle.std.specs.Prelude.{◌≡◌, refl, List, [], ◌∷◌, ◌++◌, ℕ, take, set, replicate, Result, Ok, Err}
use Rattle.format.specs.Format.{header_of, Sections, sections, sections_of}
use Rattle.format.specs.Samples.{broadcast, majority, two_outcomes, parity, seeded, quorum}
use Rattle.shape.specs.Samples.{shaping}
use Rattle.leaf.specs.Leaf.{bad_leaf}
use Rattle.writer.specs.Write.{header_bytes, docket_of, write_of, output_of}
use Rattle.refusals.specs.declared.Refusal.{Refusal}

-- The names that computed cases of the writer unfold.
unfoldable pub writing : ℕ
unfolding shaping bad_leaf header_bytes docket_of write_of output_of
writing = 0

-- The sections of a docket.
abbrev pub parts : List ℕ → Sections
parts b = sections_of b (header_of b)

-- The sections of broadcast, so many bytes of each.
abbrev cut_to : ℕ → ℕ → ℕ → ℕ → Sections
cut_to s r l n = let x = parts broadcast in sections (take s x.states) (take r x.rules) (take l x.layers) (take n x.nodes) []

-- The sections of broadcast, with these leaves.
abbrev with_leaves : List ℕ → Sections
with_leaves v = let x = parts broadcast in sections x.states x.rules x.layers x.nodes v

-- Number and place of a refusal; 0 and the total of a docket that is written.
abbrev said : Result ℕ Refusal → ℕ × ℕ
said (Ok n) = (0, n)
said (Err r) = (r.number, r.place)

-- Sections, the room that the output has, and what is said in version 1.
abbrev samples : List (Sections × (ℕ × (ℕ × ℕ)))
samples =
    (parts broadcast, (99, (0, 99)))
    ∷ (parts broadcast, (98, (30, 0)))
    ∷ (parts broadcast, (0, (30, 0)))
    ∷ (parts majority, (300, (0, 300)))
    ∷ (parts two_outcomes, (1000, (0, 138)))
    ∷ (parts parity, (333, (0, 333)))
    -- The ladder and the tree are not judged: test 9 and test 12 would refuse these.
    ∷ (parts (set broadcast 31 0), (99, (0, 99)))
    ∷ (parts (set broadcast 67 4), (99, (0, 99)))
    -- Test 31, the lowest section.
    ∷ (cut_to 2 4 8 60, (99, (31, 1)))
    ∷ (cut_to 2 5 7 60, (99, (31, 2)))
    ∷ (cut_to 2 5 4 60, (99, (31, 2)))
    ∷ (cut_to 2 5 8 59, (99, (31, 3)))
    ∷ (cut_to 2 5 7 59, (99, (31, 2)))
    ∷ (with_leaves (0 ∷ 0 ∷ 0 ∷ 0 ∷ []), (99, (31, 4)))
    ∷ (cut_to 2 4 8 60, (0, (31, 1)))
    -- No states: layers and leaves are not tried, rules and nodes are.
    ∷ (sections [] [] [] [] (0 ∷ []), (99, (3, 0)))
    ∷ (cut_to 0 5 7 60, (99, (3, 0)))
    ∷ (cut_to 0 4 7 60, (99, (31, 1)))
    ∷ (cut_to 0 5 7 59, (99, (31, 3)))
    -- One state: the records have 4 bytes.
    ∷ (cut_to 1 5 4 60, (99, (3, 0)))
    ∷ (cut_to 1 5 3 60, (99, (31, 2)))
    -- Test 3 behind 31, before 5.
    ∷ (cut_to 2 0 8 60, (99, (3, 2)))
    ∷ (cut_to 2 5 0 60, (99, (3, 2)))
    ∷ (cut_to 2 5 8 0, (99, (3, 3)))
    ∷ (sections (4 ∷ 3 ∷ []) [] [] [] [], (99, (3, 3)))
    -- Tests 5 to 8 and 11, before 30.
    ∷ (parts (set broadcast 24 4), (0, (5, 0)))
    ∷ (parts (set (set broadcast 24 0) 25 1), (0, (5, 2)))
    ∷ (parts (set broadcast 26 2), (0, (6, 0)))
    ∷ (parts (set two_outcomes 35 1), (0, (7, 1)))
    ∷ (parts (set broadcast 33 16), (0, (8, 0)))
    ∷ (with_leaves (17 ∷ 39 ∷ 0 ∷ 0 ∷ 0 ∷ 0 ∷ 0 ∷ 0 ∷ []), (0, (11, 0)))
    ∷ (with_leaves (16 ∷ 39 ∷ 0 ∷ 0 ∷ 0 ∷ 0 ∷ 240 ∷ 216 ∷ []), (0, (30, 0)))
    ∷ []

abbrev answers : ℕ → List (Sections × (ℕ × (ℕ × ℕ))) → List (ℕ × ℕ)
answers v [] = []
answers v (c ∷ cs) = said (write_of v c.0 c.1.0) ∷ answers v cs

abbrev expected : List (Sections × (ℕ × (ℕ × ℕ))) → List (ℕ × ℕ)
expected [] = []
expected (c ∷ cs) = c.1.1 ∷ expected cs

samples_right : answers 1 samples ≡ expected samples
unfolding writing
samples_right = refl

-- The sections of seeded, with so many bytes of states.
abbrev with_states : ℕ → Sections
with_states n = let x = parts seeded in sections (take n x.states) x.rules x.layers x.nodes x.leaves

-- In version 2 a state record has three bytes, and rules stand in order.
abbrev samples_2 : List (Sections × (ℕ × (ℕ × ℕ)))
samples_2 =
    (parts seeded, (185, (0, 185)))
    ∷ (parts quorum, (500, (0, 405)))
    ∷ (parts seeded, (184, (30, 0)))
    ∷ (with_states 11, (185, (31, 0)))
    ∷ (with_states 10, (0, (31, 0)))
    ∷ (with_states 2, (185, (31, 0)))
    ∷ (parts broadcast, (99, (31, 0)))
    -- Three states: the layers are 12 bytes each, and four of them; the leaf is no whole number of records.
    ∷ (with_states 9, (185, (31, 4)))
    -- No states: layers and leaves are not tried.
    ∷ (with_states 0, (185, (3, 0)))
    ∷ (parts (set (set seeded 25 233) 26 3), (0, (5, 0)))
    ∷ (parts (set seeded 27 0), (0, (5, 4)))
    -- Test 14, behind 7 and before 8; the rules are not sorted.
    ∷ (parts (set seeded 37 2), (0, (14, 1)))
    ∷ (parts (set (set (set seeded 46 0) 48 0) 49 2), (0, (7, 2)))
    ∷ (parts (set seeded 60 0), (0, (14, 4)))
    ∷ []

samples_2_right : answers 2 samples_2 ≡ expected samples_2
unfolding writing
samples_2_right = refl

-- Other versions are refused before all else. In version 1 the states of seeded are twelve, so the layers are one record, and the
-- 16 bytes of the leaf are no whole one.
versions_right : said (write_of 0 (parts seeded) 185) ∷ said (write_of 3 (with_states 11) 0) ∷ said (write_of 4294967295 (parts broadcast) 99)
    ∷ said (write_of 65538 (parts seeded) 185) ∷ said (write_of 1 (parts seeded) 185) ∷ []
    ≡ (2, 0) ∷ (2, 0) ∷ (2, 0) ∷ (2, 0) ∷ (31, 4) ∷ []
unfolding writing
versions_right = refl

-- The bytes of the docket, and behind them what was there; a refusal leaves all as it was.
written_bytes : output_of 1 (parts majority) (replicate 303 170) ≡ majority ++ 170 ∷ 170 ∷ 170 ∷ []
unfolding writing
written_bytes = refl

written_bytes_2 : output_of 2 (parts seeded) (replicate 187 170) ≡ seeded ++ 170 ∷ 170 ∷ []
unfolding writing
written_bytes_2 = refl

refused_bytes : output_of 1 (parts majority) (replicate 299 170) ≡ replicate 299 170
unfolding writing
refused_bytes = refl
