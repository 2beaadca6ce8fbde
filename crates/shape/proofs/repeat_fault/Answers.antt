-- `shape::repeat_fault` meets its contract: where no two rules have one before pair, no two are equal.
use Rattle.std.proofs.Common.{rules}
use Rattle.shape.proofs.MarkLaws.{pairs_once, whole_found}
use Rattle.shape.proofs.repeat_fault.Goals as goal

pub returns-in_err-first_again : goal.returns-in_err-first_again
returns-in_err-first_again c = search (pairs_once, rules)

pub returns : goal.returns
returns c = search (whole_found, rules)
