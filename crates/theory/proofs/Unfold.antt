-- Names that stand for lists of names: a computed case unfolds one of these in place of all the definitions that it
-- computes with.
use Rattle.std.specs.Prelude.{ℕ}
use Rattle.theory.specs.Bool.{member}
use Rattle.theory.specs.Below.{all_below, any_below, first_below, sum_below, least, greatest, first_greatest}
use Rattle.theory.specs.Judge.{judge}
use Rattle.theory.specs.Weigh.{weigh}
use Rattle.theory.specs.Protocol.{size, lose, gain, enabled, fire, terminal, shows, output_of, unfit, start_test, fires, tried, after, meetings}
use Rattle.theory.specs.Pairs.{pairs_between, pairs_among, rules_between}
use Rattle.theory.specs.Ladder.{is_lower, fits, handover_at, handover, enabled_in, active, lowest, layered}
use Rattle.theory.specs.Ladder.{spread, lowers_at, lowering, spreads, spreads_above, rank_at, rank}
use Rattle.theory.specs.Facts.{extend, with_absent, with_present, with_at_most_one, with_unused, fresh}
use Rattle.theory.specs.Leaf.{extra, spare, non_increasing, start_fits, times, end_fits, surplus, shortfall, leaf_closes, signed_sum}
use Rattle.theory.specs.Remainder.{congruent, exactly_one, known, conserved, start_vanishes, end_vanishes, excess, deficit, remainder_closes}
use Rattle.theory.specs.Tree.{set_size, widest_below, widest, checked, refusal_number, forest, takes, puts, touches, follows, is_trap, is_siphon}
use Rattle.theory.specs.Tree.{within, is_set, is_modulus, children, disagreement, is_run, ground, by_kind, node, tree_at, tree_answer}
use Rattle.theory.specs.Sheet.{at_least, at_most, sheet_closes, counterexample, sheet_answer, weighed_sum}
use Rattle.theory.specs.Sheet.Claimed.{is_reached, claimed}
use Rattle.theory.specs.Starts.{each_down, starts_over, binomial, inputs_of, fixed_total, starts}
use Rattle.theory.specs.Machine.{is_refused, meetings_of, is_sized, is_within, admitted, admit, chosen, run_numbers}
use Rattle.theory.specs.Machine.{step_reply, run_reply, reply, adds, counts_after, numbers_of, rest_numbers, rest_of}
use Rattle.theory.specs.Machine.Lists.{last_counts, reported}

-- Tests, sums and extremes below a bound.
unfoldable pub bounds : ℕ
unfolding all_below any_below first_below sum_below least greatest first_greatest judge
bounds = 0

-- Configurations, meetings and lists of rule numbers.
unfoldable pub meeting : ℕ
unfolding bounds size weigh lose gain enabled fire terminal shows output_of unfit start_test fires tried after meetings pairs_between
    pairs_among rules_between
meeting = 0

-- The ladder.
unfoldable pub laddering : ℕ
unfolding meeting is_lower fits handover_at handover enabled_in active lowest layered
    spread lowers_at lowering spreads spreads_above rank_at rank
laddering = 0

-- The leaf rule and the remainder rule.
unfoldable pub closing : ℕ
unfolding bounds extend with_absent with_present with_at_most_one with_unused fresh
    extra spare non_increasing start_fits times end_fits surplus shortfall leaf_closes
    congruent exactly_one known conserved start_vanishes end_vanishes excess deficit remainder_closes
closing = 0

-- The tree.
unfoldable pub walking : ℕ
unfolding closing member set_size widest_below widest checked refusal_number forest takes puts touches follows is_trap is_siphon
    within is_set is_modulus children disagreement is_run ground by_kind node tree_at tree_answer
walking = 0

-- Claim sheets.
unfoldable pub claiming : ℕ
unfolding walking weigh is_reached at_least at_most claimed sheet_closes counterexample sheet_answer signed_sum weighed_sum
claiming = 0

-- The machine's calls.
unfoldable pub calling : ℕ
unfolding laddering is_refused meetings_of is_sized is_within admitted admit chosen run_numbers
    step_reply run_reply reply adds counts_after last_counts numbers_of reported
calling = 0

-- The starts, each run until it rests.
unfoldable pub starting : ℕ
unfolding calling each_down starts_over binomial inputs_of fixed_total starts rest_numbers rest_of
starting = 0
