-- `totals::tally_starts` meets its contract: the totals are those of the starts counted so far.
use Rattle.std.proofs.Common.{rules}
use Rattle.totals.proofs.TallyLaws.{has_input, tallying_none, tallying_group, tallying_room, tallying_more, tallying}
use Rattle.totals.proofs.tally_starts.Goals as goal

pub first_start-requires : goal.first_start-requires
first_start-requires c = search (has_input, tallying, rules)

pub loop-going-init : goal.loop-going-init
loop-going-init c = (
  tallying_none _ _ c.requires.docket _ c.states_section-states.ensures _ c.requires.small _ _ c.first_start.ensures,
  search rules,
  search rules,
  search rules,
)

pub tally_start-t-requires : goal.tally_start-t-requires
tally_start-t-requires c =
    let good = c.requires.docket in
    let small = c.requires.small in
    let states = c.states_section-states.ensures in
    let on = c.loop-going-test.true in
    let so_far = c.loop-going.invariant.0 in
    record {
      docket = good;
      counts = tallying_group _ _ good _ states _ small _ _ _ _ so_far on;
      work = search rules;
      first = search rules;
      room = tallying_room _ _ good _ states _ small _ _ _ _ so_far on;
    }

pub next_start-going-requires : goal.next_start-going-requires
next_start-going-requires c = search (has_input, tallying, rules)

pub loop-going-smaller : goal.loop-going-smaller
loop-going-smaller c = search (tallying, rules)

pub loop-going-preserved : goal.loop-going-preserved
loop-going-preserved c =
    let so_far = c.loop-going.invariant in (
      tallying_more _ _ c.requires.docket _ c.states_section-states.ensures _ c.requires.small _ _ _ _ so_far.0 c.loop-going-test.true
          _ c.tally_start-t.ensures.totals _ c.tally_start-t.ensures.first _ c.next_start-going.ensures.answer _ c.next_start-going.ensures.counts,
      search rules,
      search rules,
      search rules,
    )

pub returns : goal.returns
returns c = search (tallying, rules)
