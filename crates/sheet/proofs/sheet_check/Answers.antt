-- `sheet::sheet_check` meets its contract: test 15, then the trees.
use Rattle.std.proofs.Common.{rules}
use Rattle.checker.specs.Check.Laws.{rules_sound}
use Rattle.shape.proofs.SoundLaws.{docket_sound}
use Rattle.sheet.specs.Code.Laws.{fault_refused, trees_checked}
use Rattle.sheet.proofs.sheet_check.Goals as goal

pub returns-in_err-when : goal.returns-in_err-when
returns-in_err-when c =
    fault_refused c.args.docket _ c.rules_section-rules.result.now _ _ _ _ _ c.states_section-states.ensures c.read_sheet_header-k.ensures c.sheet_bad.ensures c.when.ensures
    _ c.in_err-when.was (search rules)

pub trees_check-requires : goal.trees_check-requires
trees_check-requires c = rules_sound _ _ _ c.rules_section-rules.ensures (docket_sound c.args.docket)

pub returns : goal.returns
returns c =
    trees_checked c.args.docket _ _ _ _ _ _ _ c.states_section-states.ensures c.read_sheet_header-k.ensures c.sheet_bad.ensures c.when.ensures
    c.in_ok-when.was c.rules_section-rules.ensures c.trees_check.ensures
