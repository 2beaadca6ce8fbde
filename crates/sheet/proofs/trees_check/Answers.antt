-- `sheet::trees_check` meets its contract: the first tree, then the second.
use Rattle.std.proofs.Common.{rules, refl}
use Rattle.sheet.specs.Code.Laws.{stopped_first, second-place, stopped_second, both_stand}
use Rattle.sheet.proofs.trees_check.Goals as goal

pub returns-in_err-first_walk : goal.returns-in_err-first_walk
returns-in_err-first_walk c = stopped_first _ _ _ c.first_walk.ensures _ _ c.in_err-first_walk.was (search rules)

pub later-requires : goal.later-requires
later-requires c = second-place _ _ _ c.first_walk.ensures _ c.in_ok-first_walk.was _ c.second_walk.ensures _ c.in-Err.is (search rules)

pub returns-in-Ok : goal.returns-in-Ok
returns-in-Ok c = both_stand _ _ _ c.first_walk.ensures _ c.in_ok-first_walk.was _ c.second_walk.ensures _ _ c.in-Ok.is refl

pub returns-in-Err : goal.returns-in-Err
returns-in-Err c =
    stopped_second _ _ _ c.first_walk.ensures _ c.in_ok-first_walk.was _ c.second_walk.ensures _ _ _ _ c.in-Err.is c.later.ensures refl refl
