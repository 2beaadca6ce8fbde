-- The rules below 64 word are unused or preserve the set, just where the test says so, and those that touch it are gathered.
use Rattle.std.proofs.Common.{◌≤◌, ◌*◌, arith, rules}
use Rattle.node.specs.Code.Laws.{trap_of, preserved, preserved_more, touched, touching_more}
use Rattle.node.proofs.test_set.Goals as goal

pub loop-word-init : goal.loop-word-init
loop-word-init c = search (preserved, touched, rules)

pub loop-word-preserved : goal.loop-word-preserved
loop-word-preserved c =
    let flow = c.word_flow-f.ensures in
    let so_far = c.loop-word.invariant in
    rw c.from-q.ensures (
      search rules,
      preserved_more _ _ _ _ _ _ _ _ _ _ so_far.1 flow c.breaking.ensures (rw c.from-q.ensures at c.word.ensures) c.subset-trap.ensures,
      touching_more _ _ _ _ so_far.2 _ _ so_far.0 (omega arith) flow c.union.ensures,
    )

pub returns : goal.returns
returns c = let l : c.args.z.rules ≤ 64 * c.loop-word.word = omega arith in search (trap_of, preserved, touched, rules)
