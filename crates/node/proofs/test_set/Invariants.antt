-- The rules below 64 word are unused or preserve the set, just where the test says so, and those that touch it are gathered.
use Rattle.std.proofs.Common.{◌≡◌, length}
use Rattle.theory.specs.Bool.{member}
use Rattle.theory.specs.Tree.{touches}
use Rattle.bits.specs.Code.{in_words, first_words}
use Rattle.format.specs.Format.{protocol_of}
use Rattle.node.specs.Code.Laws.{preserved_below}
use Rattle.node.proofs.test_set.Given as goal

abbrev pub invariant-loop-word : goal.invariant-loop-word
invariant-loop-word l =
    (length l.touching ≡ 4)
    × (l.trap ≡ preserved_below l.reversed (protocol_of l.z l.states l.rules) (in_words l.unused) (member l.set) l.word)
    × (in_words l.touching ≡ first_words l.word (touches (protocol_of l.z l.states l.rules) (member l.set)))
