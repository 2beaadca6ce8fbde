-- `counts::counts_fault` meets its contract: test 20 refuses, or test 21 decides.
use Rattle.std.proofs.Common.{rules}
use Rattle.counts.specs.Code.Laws.{counts-tests}
use Rattle.counts.proofs.counts_fault.Goals as goal

pub returns-in_err-when : goal.returns-in_err-when
returns-in_err-when c = search (counts-tests, rules)

pub returns : goal.returns
returns c = search (counts-tests, rules)
