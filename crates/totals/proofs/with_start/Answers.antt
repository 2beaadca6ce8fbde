-- `totals::with_start` meets its contract: each total is that of one start more.
use Rattle.std.proofs.Common.{true, false, arith}
use Rattle.totals.specs.Code.{agrees_on}
use Rattle.totals.proofs.CodeLaws.{bit-most, with_start_lem}
use Rattle.totals.proofs.with_start.Goals as goal

pub overflow_add-result-2 : goal.overflow_add-result-2
overflow_add-result-2 c = omega (arith, bit-most (agrees_on false c.args.verdict), c.agrees_on.ensures, c.requires.starts, c.requires.zeros)

pub overflow_add-result-3 : goal.overflow_add-result-3
overflow_add-result-3 c = omega (arith, bit-most (agrees_on true c.args.verdict), c.agrees_on-2.ensures, c.requires.starts, c.requires.ones)

pub returns : goal.returns
returns c = with_start_lem _ _ _ _ _ _ c.agrees_on.ensures c.agrees_on-2.ensures c.max.ensures
