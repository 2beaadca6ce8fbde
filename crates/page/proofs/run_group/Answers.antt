-- `page::run_group` meets its contract: the part of the counts that is lent to the run is the group.
use Rattle.std.proofs.Common.{refl}
use Rattle.page.proofs.CodeLaws.{group_counts, group_result}
use Rattle.page.proofs.run_group.Goals as goal

pub returns : goal.returns
returns c =
    let d = c.args.docket in
    record {
      counts = group_counts d.bytes.now d.header c.args.limit _ _ _ _ _ refl refl _ c.run_in-ran.ensures;
      results = group_result d.bytes.now d.header c.args.limit _ _ _ _ _ refl refl _ c.run_in-ran.ensures _ _ c.put_result.ensures;
    }
