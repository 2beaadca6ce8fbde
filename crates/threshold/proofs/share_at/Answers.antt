-- The shares at the start and at the end are the definition's.
use Rattle.std.proofs.Common.{rules}
use Rattle.share.specs.Code.{both_of, ShareIs}
use Rattle.threshold.specs.Code.Laws.{shared}
use Rattle.threshold.proofs.share_at.Goals as goal

pub returns : goal.returns
returns c =
    let r = c.both.result in
    let h : ShareIs 1125899906842624 (both_of c.start_share-first.result c.end_share-last.result) r =
    search rules
    in search (shared, h, rules)
