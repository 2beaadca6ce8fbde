-- `writer::write` meets its contract: by the version and by what the tests found; a docket that passes them has room.
use Rattle.std.proofs.Common.{rules}
use Rattle.format.specs.Format.{sections}
use Rattle.writer.proofs.CodeLaws.{written-answer, written_output, refused_answer, refused_output, version_answer, version_output, fits_limits, fits_header, has_room}
use Rattle.writer.proofs.write.Goals as goal

pub returns-in_err-when : goal.returns-in_err-when
returns-in_err-when c = search (version_answer, version_output, rules)

pub returns-in_err-write_tests : goal.returns-in_err-write_tests
returns-in_err-write_tests c = record {
  answer =
      refused_answer _ _ _ _ _ c.when.ensures c.version_fault.ensures c.in_ok-when.was _ _ c.measure-n.ensures c.sizes_for-z.ensures _ c.write_tests.ensures
      _ c.in_err-write_tests.was _ (search rules);
  output =
      refused_output _ _ _ _ _ c.when.ensures c.version_fault.ensures c.in_ok-when.was _ _ c.measure-n.ensures c.sizes_for-z.ensures _ c.write_tests.ensures
      _ c.in_err-write_tests.was;
}

pub header_for-h-requires : goal.header_for-h-requires
header_for-h-requires c =
    fits_limits _ _ c.args.out.now _ _ c.when.ensures c.version_fault.ensures c.in_ok-when.was _ _ c.measure-n.ensures c.sizes_for-z.ensures _ c.write_tests.ensures
    c.in_ok-write_tests.was

pub put_docket-requires : goal.put_docket-requires
put_docket-requires c =
    let x = sections c.args.states.now c.args.rules.now c.args.layers.now c.args.nodes.now c.args.leaves.now in
    record {
      header =
          fits_header _ x c.args.out.now _ _ c.when.ensures c.version_fault.ensures c.in_ok-when.was _ _ c.measure-n.ensures c.sizes_for-z.ensures _ c.write_tests.ensures
          c.in_ok-write_tests.was _ (search rules);
      room =
          has_room _ x c.args.out.now _ _ c.when.ensures c.version_fault.ensures c.in_ok-when.was _ _ c.measure-n.ensures c.sizes_for-z.ensures _ c.write_tests.ensures
          c.in_ok-write_tests.was;
    }

pub returns : goal.returns
returns c = search (written-answer, written_output, rules)
