-- `totals::run_to_rest` meets its contract: the steps that are left of the rest bound fall.
use Rattle.std.proofs.Common.{◌+◌, ◌-◌, ◌*◌}
use Rattle.theory.specs.Bool.{bit}
use Rattle.theory.specs.Protocol.{size}
use Rattle.theory.specs.Ladder.{spreads}
use Rattle.format.specs.Format.{protocol_in, layers_in, weight_in}
use Rattle.totals.specs.Code.{Turning}
use Rattle.totals.proofs.run_to_rest.Given as goal

abbrev pub invariant-loop-going : goal.invariant-loop-going
invariant-loop-going l = Turning l.docket.bytes.now l.docket.header l.initial.counts l.total l.going l.counts

abbrev pub decreases-loop-going : goal.decreases-loop-going
decreases-loop-going l =
    let b = l.docket.bytes.now in
    let h = l.docket.header in
    (size l.initial.counts * spreads (protocol_in b h) (layers_in b h) (weight_in b h) - l.total) + bit l.going
