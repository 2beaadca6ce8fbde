-- `page::page_tests` meets its contract: test 32, then 33.
use Rattle.std.proofs.Common.{rules, refl}
use Rattle.page.proofs.CodeLaws.{groups_refused, results_tested}
use Rattle.page.proofs.page_tests.Goals as goal

pub returns-in_err-when : goal.returns-in_err-when
returns-in_err-when c = groups_refused _ _ c.args.results _ _ refl c.when.ensures _ _ c.in_err-when.was (search rules)

pub returns : goal.returns
returns c = results_tested _ _ _ _ _ refl c.when.ensures c.in_ok-when.was _ refl _ c.when-2.ensures
