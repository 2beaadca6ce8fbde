-- `totals::tally_starts` meets its contract: the totals are those of the starts counted so far.
use Rattle.std.proofs.Common.{◌≡◌, ◌-◌, length}
use Rattle.theory.specs.Starts.{starts}
use Rattle.format.specs.Format.{protocol_in, layers_in, weight_in}
use Rattle.totals.specs.Code.{Tallying}
use Rattle.totals.proofs.tally_starts.Given as goal

abbrev pub invariant-loop-going : goal.invariant-loop-going
invariant-loop-going l =
    let b = l.docket.bytes.now in
    let h = l.docket.header in
    Tallying (protocol_in b h) (layers_in b h) (weight_in b h) l.n l.t l.first l.going l.counts
    × (length l.counts ≡ h.sizes.states) × (length l.work ≡ h.sizes.states) × (length l.first ≡ h.sizes.states)

abbrev pub decreases-loop-going : goal.decreases-loop-going
decreases-loop-going l = length (starts (protocol_in l.docket.bytes.now l.docket.header) l.n) - l.t.starts
