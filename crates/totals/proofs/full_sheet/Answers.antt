-- `totals::full_sheet` meets its contract: the counts of as many states are lent, in three buffers.
use Rattle.totals.proofs.TotalsLaws.{part_long, sheet_full}
use Rattle.format.specs.Format.{protocol_in}
use Rattle.totals.proofs.full_sheet.Goals as goal

pub tally_starts-t-requires : goal.tally_starts-t-requires
tally_starts-t-requires c =
    let docket = c.requires.docket in
    let long = part_long c.args.docket.header.sizes.states _ c.from-end.ensures docket.sound.limits.states_most in
    record { docket = docket; small = c.requires.small; counts = long; work = long; first = long }

pub returns : goal.returns
returns c =
    let d = c.args.docket in
    let said = c.tally_starts-t.ensures in
    sheet_full (protocol_in d.bytes.now d.header) _ _ _ _ _ _ c.from-end.ensures said.totals said.first
