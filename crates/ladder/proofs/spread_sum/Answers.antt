-- `ladder::spread_sum` meets its contract: the sum goes over all layers, and each spread is a 32-bit number.
use Rattle.std.proofs.Common.{arith, rules, tests}
use Rattle.std.proofs.lemmas.Iterator.{YieldsList-from_range}
use Rattle.std.proofs.lemmas.Iterator.Adapters.{fits_from_length, at_most_from_yields_List}
use Rattle.std.proofs.lemmas.List.FromFn.{length-range_with_len}
use Rattle.theory.proofs.Below.Scan.{sum_found}
use Rattle.ladder.proofs.spread_sum.Goals as goal

pub sum-requires-clause-fits : goal.sum-requires-clause-fits
sum-requires-clause-fits c =
    let n = c.args.z.layers in
    fits_from_length _ _ 65535 _ (at_most_from_yields_List (YieldsList-from_range 0 n n c.map.ensures.source (omega arith)) (omega (arith, length-range_with_len 0 n)))
    c.map.ensures.closure (omega arith) (λ x r q k. search (rules, tests))

pub returns : goal.returns
returns c = sum_found _ _ _ _ _ c.sum.ensures.ran c.map.ensures.source c.map.ensures.closure (λ x r q k. search rules)
