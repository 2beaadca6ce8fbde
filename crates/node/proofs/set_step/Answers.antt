-- Good fields name a run and a set of states; the tests of words then are those of the states, and the marks those of the
-- definition.
use Rattle.node.specs.Code.Laws.{judge-refuses, judge_passes, set_turn}
use Rattle.std.proofs.Common.{◌≡◌, Err, refl, rules}
use Rattle.node.proofs.set_step.Goals as goal

pub returns-in_err-judge : goal.returns-in_err-judge
returns-in_err-judge c =
    let e : c.from_residual.result ≡ Err c.in_err-judge.field-0.0 = search rules in
    set_turn _ _ _ _ _ _ _ _ _ _ _ _ _ _ _ _ c.names_set-fields.ensures c.party_if-from.ensures refl c.subset-absent.ensures c.absent.ensures
    c.test_set-t.ensures.trap c.test_set-t.ensures.touching refl
    (judge-refuses _ _ _ c.judge.ensures _ c.in_err-judge.was _ e _)

pub returns : goal.returns
returns c =
    set_turn _ _ _ _ _ _ _ _ _ _ _ _ _ _ _ _ c.names_set-fields.ensures c.party_if-from.ensures c.party_if-to.ensures c.subset-absent.ensures c.absent.ensures
    c.test_set-t.ensures.trap c.test_set-t.ensures.touching c.mark_gone.ensures
    (judge_passes _ _ _ c.judge.ensures _ c.in_ok-judge.was _)
