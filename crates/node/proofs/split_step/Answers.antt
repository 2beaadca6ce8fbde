-- Good fields name a party and a state; the marks then are those of the definition.
use Rattle.node.specs.Code.Laws.{judge_passes, split_turn}
use Rattle.std.proofs.Common.{true, rules}
use Rattle.node.proofs.split_step.Goals as goal

pub returns : goal.returns
returns c =
    split_turn c.args.z c.args.n _ _ _ _ _ _ c.requires.runs_bound c.requires.states_bound (search rules) c.mark_absent-first.ensures
    c.mark_present-second.ensures (judge_passes _ _ true (rw c.names_state.ensures at c.judge.ensures) _ c.in_ok-judge.was _)
