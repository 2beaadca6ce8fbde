-- `writer::put` meets its contract: when the whole part is written, the output is the one that the part replaced.
use Rattle.std.proofs.Common.{◌≡◌, refl, ◌+◌, ◌∙◌, ap, arith, length, set, get_or}
use Rattle.std.proofs.Math.Seq.{paste}
use Rattle.std.proofs.lemmas.List.Edits.{paste_all, paste_more}
use Rattle.writer.specs.Code.{replaced}
use Rattle.writer.proofs.put.Goals as goal

pub loop-i-preserved : goal.loop-i-preserved
loop-i-preserved c =
    ap (λ b. set b (c.args.at + c.loop-i.i) (get_or c.args.part.now c.loop-i.i 0)) c.loop-i.invariant
    ∙ paste_more c.args.out.now c.args.at c.args.part.now c.loop-i.i 0 (omega (arith, c.requires)) c.loop-i-test.true

pub returns-clause-output : goal.returns-clause-output
unfolding replaced
returns-clause-output c =
    let all : c.loop-i.i ≡ length c.args.part.now = omega (arith, c.loop-i-test.false) in
    c.loop-i.invariant ∙ ap (paste c.args.out.now c.args.at c.args.part.now) all ∙ paste_all c.args.out.now c.args.at c.args.part.now _ refl
