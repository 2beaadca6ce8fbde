-- What the functions of the writer answer, beside the definitions of Write.
use Rattle.std.specs.Prelude.{List, [], ◌++◌, ℕ, ◌+◌, min, length, take, drop, Result, Ok, Err}
use Rattle.theory.specs.Judge.{judge}
use Rattle.format.specs.Format.{Sections, sections}
use Rattle.format.specs.declared.Sizes.{Sizes}
use Rattle.refusals.specs.declared.Refusal.{Refusal}
use Rattle.refusals.specs.Refusal.{refusal}
use Rattle.writer.specs.Write.{record_tests, part_tests}

-- A count in 16 bits: the greatest stands for all that are too great, which every limit refuses.
abbrev pub cut : ℕ → ℕ
cut n = min n 65535

abbrev pub cut_sizes : Sizes → Sizes
cut_sizes z =
    record {
      version = z.version;
      states = cut z.states;
      rules = cut z.rules;
      layers = cut z.layers;
      nodes = cut z.nodes;
      leaves = cut z.leaves;
    }

-- Tests 5 to 8, with 14, and 11, for any sizes z. They do not look at the nodes.
unfoldable pub records_tested : Sizes → List ℕ → List ℕ → List ℕ → List ℕ → Result (Unit {0}) Refusal
records_tested z states rules layers leaves =
    judge (λ n k. Err (refusal n k)) (Ok tt) (record_tests z (sections states rules layers [] leaves))

-- The tests of the writer behind that of the version.
unfoldable pub parts_tested : ℕ → Sections → ℕ → Result (Unit {0}) Refusal
parts_tested v x room = judge (λ n k. Err (refusal n k)) (Ok tt) (part_tests v x room)

-- What two lists of tests find, of which the second, which found o, counts where the first passes.
abbrev pub behind : Result (Unit {0}) Refusal → Result (Unit {0}) Refusal → Result (Unit {0}) Refusal
behind (Ok t) o = o
behind (Err r) o = Err r

-- The answer after the tests, n being the total.
abbrev pub as_written : ℕ → Result (Unit {0}) Refusal → Result ℕ Refusal
as_written n (Ok t) = Ok n
as_written n (Err r) = Err r

-- The output with the bytes of a part in place of those from `at` on.
unfoldable pub replaced : List ℕ → ℕ → List ℕ → List ℕ
replaced out at part = take at out ++ (part ++ drop (at + length part) out)
