-- All members of the word are absent just where all states of that output are.
use Rattle.node.specs.Code.Laws.{judge-refuses, judge_passes, output_turn}
use Rattle.std.proofs.Common.{◌≡◌, Err, rules}
use Rattle.node.proofs.output_step.Goals as goal

pub returns-in_err-judge : goal.returns-in_err-judge
returns-in_err-judge c =
    let e : c.from_residual.result ≡ Err c.in_err-judge.field-0.0 = search rules in
    output_turn c.args.z c.args.n _ _ _ _ _ _ _ c.requires.states_bound c.requires.aim_fits c.assumed_word.ensures c.absent.ensures c.subset-ground.ensures
    (judge-refuses _ _ _ c.judge.ensures _ c.in_err-judge.was _ e _)

pub returns : goal.returns
returns c =
    output_turn c.args.z c.args.n _ _ _ _ _ _ _ c.requires.states_bound c.requires.aim_fits c.assumed_word.ensures c.absent.ensures c.subset-ground.ensures
    (judge_passes _ _ _ c.judge.ensures _ c.in_ok-judge.was _)
