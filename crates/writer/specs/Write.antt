-- The writer of dockets (document 02, Jobs 3 to 5). It is told the version v and lent the bytes of the five sections, which
-- document 02 calls parts, and an output. It makes tests 2, 31, 3, 5, 6, 7, 14, 8, 11 and 30, in this order, and writes the docket
-- to the beginning of the output. It does not sort the rules.
use Rattle.std.specs.Prelude.{◌≡◌, Bool, not, cond, ◌&&◌, List, [], ◌∷◌, ◌++◌, ℕ, ◌+◌, ◌*◌, ◌/◌, ◌%◌, ◌<◌, ltb, eqb, length, get_or, drop, Result, Ok, Err}
use Rattle.theory.specs.Judge.{Test, only, judge}
use Rattle.format.specs.Format.{state_width, states_length, rules_length, layers_length, nodes_length, leaves_length, Sections}
use Rattle.format.specs.declared.Sizes.{Sizes}
use Rattle.format.specs.declared.Offsets.{Offsets}
use Rattle.format.specs.declared.Header.{Header}
use Rattle.refusals.specs.declared.Refusal.{Refusal}
use Rattle.refusals.specs.Refusal.{refusal}
use Rattle.shape.specs.Shape.{nth, version_test, count_test, section_tests}
use Rattle.leaf.specs.Leaf.{leaf_test}
use Rattle.writer.specs.declared.Lengths.{Lengths}

-- ---- Records and counts

-- How many bytes each section has.
abbrev pub lengths_of : Sections → Lengths
lengths_of x =
    record {
      states = length x.states;
      rules = length x.rules;
      layers = length x.layers;
      nodes = length x.nodes;
      leaves = length x.leaves;
    }

-- n bytes are no whole number of records of this width. Width 0, which layers and leaves have where there are no states, is not
-- tried.
abbrev pub not_whole : ℕ → ℕ → Bool
not_whole width n = not (eqb width 0) && not (eqb (n % width) 0)

-- How many whole records of this width n bytes have; of width 0, none.
abbrev pub records : ℕ → ℕ → ℕ
records width n = cond (eqb width 0) 0 (n / width)

-- How many state records there are.
abbrev pub states_for : ℕ → Lengths → ℕ
states_for v n = records (state_width v) n.states

-- Test 31: the sections (states, rules, layers, nodes, leaves) whose length is no whole number of records. A state has 1 byte, in
-- version 2 it has 3; a rule has 5, a layer 4 for each state, a node 12, a leaf 4 for each state (document 01, "The file").
abbrev pub length_faults : ℕ → Lengths → List Bool
length_faults v n =
    not_whole (state_width v) n.states
    ∷ not_whole 5 n.rules
    ∷ not_whole (4 * states_for v n) n.layers
    ∷ not_whole 12 n.nodes
    ∷ not_whole (4 * states_for v n) n.leaves
    ∷ []

-- The version, and the counts that the lengths give, whatever they are.
abbrev pub sizes_for : ℕ → Lengths → Sizes
sizes_for v n =
    record {
      version = v;
      states = states_for v n;
      rules = records 5 n.rules;
      layers = records (4 * states_for v n) n.layers;
      nodes = records 12 n.nodes;
      leaves = records (4 * states_for v n) n.leaves;
    }

-- The version, and the counts of the sections x.
abbrev pub sizes_in : ℕ → Sections → Sizes
sizes_in v x = sizes_for v (lengths_of x)

-- What test 31 asks for: each length is that of the records counted. Layers and leaves are asked for where there are states.
pub record WholeRecords (v : ℕ) (x : Sections) : Type 0 where
  pub states : length x.states ≡ states_length (sizes_in v x)
  pub rules : length x.rules ≡ rules_length (sizes_in v x)
  pub layers : 0 < (sizes_in v x).states → length x.layers ≡ layers_length (sizes_in v x)
  pub nodes : length x.nodes ≡ nodes_length (sizes_in v x)
  pub leaves : 0 < (sizes_in v x).states → length x.leaves ≡ leaves_length (sizes_in v x)

-- ---- The docket

-- All numbers of the list are bytes.
abbrev pub AreBytes : List ℕ → Type 0
AreBytes b = (k : ℕ) → get_or b k 0 < 256

-- The offsets for sizes z: each section begins where the one before ends, the first at byte 24, the total is the end of the last.
abbrev pub offsets_for : Sizes → Offsets
offsets_for z =
    let rules = 24 + states_length z in
    let layers = rules + rules_length z in
    let nodes = layers + layers_length z in
    let leaves = nodes + nodes_length z in
    record { states = 24; rules = rules; layers = layers; nodes = nodes; leaves = leaves; total = leaves + leaves_length z }

-- The header for sizes z.
abbrev pub header_for : Sizes → Header
header_for z = record { sizes = z; at = offsets_for z }

-- The 16 bits of n as two bytes, the lower first, before the bytes that follow.
abbrev pub put16 : ℕ → List ℕ → List ℕ
put16 n rest = n % 256 ∷ n / 256 % 256 ∷ rest

-- The bytes of a header: twelve 16-bit numbers.
unfoldable pub header_bytes : Header → List ℕ
header_bytes h =
    let z = h.sizes in
    let at = h.at in
    put16 z.version (put16 z.states (put16 z.rules (put16 z.layers (put16 z.nodes (put16 z.leaves
    (put16 at.states (put16 at.rules (put16 at.layers (put16 at.nodes (put16 at.leaves (put16 at.total [])))))))))))

-- The docket of the sections x: its header, then the sections without gaps.
unfoldable pub docket_of : ℕ → Sections → List ℕ
docket_of v x = header_bytes (header_for (sizes_in v x)) ++ (x.states ++ (x.rules ++ (x.layers ++ (x.nodes ++ x.leaves))))

-- ---- What the writer says and writes, where the output has room for so many bytes

-- Test 31.
abbrev pub length_test : ℕ → Sections → Test
length_test v x = record { number = 31; places = 5; bad = nth (length_faults v (lengths_of x)) }

-- Tests 5 to 8, with 14, and 11, of the sections x with sizes z. The ladder and the tree are not judged.
abbrev pub record_tests : Sizes → Sections → List Test
record_tests z x = section_tests z x ++ leaf_test z x.leaves ∷ []

-- Test 30: the output is shorter than the total.
abbrev pub room_test : ℕ → Sections → ℕ → Test
room_test v x room = only 30 (ltb room (length (docket_of v x)))

-- The tests behind that of the version, in order.
abbrev pub part_tests : ℕ → Sections → ℕ → List Test
part_tests v x room = length_test v x ∷ count_test (sizes_in v x) ∷ (record_tests (sizes_in v x) x ++ room_test v x room ∷ [])

-- All tests, in order.
abbrev pub write_tests : ℕ → Sections → ℕ → List Test
write_tests v x room = version_test v ∷ part_tests v x room

-- The answer: the total, which is the docket's length, or the first refusal that fits.
unfoldable pub write_of : ℕ → Sections → ℕ → Result ℕ Refusal
write_of v x room = judge (λ n k. Err (refusal n k)) (Ok (length (docket_of v x))) (write_tests v x room)

-- The output `out` after this answer: the docket, and behind it what was there; after a refusal all is as it was.
abbrev pub written : ℕ → Sections → List ℕ → Result ℕ Refusal → List ℕ
written v x out (Ok n) = docket_of v x ++ drop n out
written v x out (Err r) = out

-- The output `out` after the call.
unfoldable pub output_of : ℕ → Sections → List ℕ → List ℕ
output_of v x out = written v x out (write_of v x (length out))
