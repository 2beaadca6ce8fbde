-- `page::run_groups` meets its contract: the parts of the groups that have been run hold what is made of them, the others are as
-- they were.
use Rattle.page.specs.Code.{RunUpTo}
use Rattle.page.proofs.run_groups.Given as goal

abbrev pub invariant-loop-g : goal.invariant-loop-g
invariant-loop-g l = RunUpTo l.docket.bytes.now l.docket.header l.limit l.initial.counts l.initial.results l.g l.counts l.results
