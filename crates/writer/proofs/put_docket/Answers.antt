-- `writer::put_docket` meets its contract: each part is put where the one before ends.
use Rattle.writer.proofs.CodeLaws.{docket_put}
use Rattle.writer.proofs.put_docket.Goals as goal

pub returns : goal.returns
returns c =
    let p₁ = c.put-states_at.ensures in
    let p₂ = c.put-rules_at.ensures in
    let p₃ = c.put-layers_at.ensures in
    let p₄ = c.put-nodes_at.ensures in
    let p₅ = c.put-leaves_at.ensures in
    let p₆ = c.put.ensures in
    let r =
    docket_put _ _ _ p₁.output p₁.end p₂.output p₂.end p₃.output p₃.end p₄.output p₄.end p₅.output p₅.end p₆.output p₆.end
    c.requires.header c.header_bytes-header.ensures in
    record { total = r.0; output = r.1 }
