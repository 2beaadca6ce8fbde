-- `page::run_page` meets its contract: a refusal is passed back and leaves both buffers; else all groups are run.
use Rattle.std.specs.Prelude.{Err}
use Rattle.std.proofs.Common.{rules, ◌≡◌, sym, ◌∙◌}
use Rattle.shape.proofs.ShapeLaws.{passed_back}
use Rattle.shape.proofs.SoundLaws.{docket_sound}
use Rattle.page.specs.Page.{page_of}
use Rattle.page.proofs.CodeLaws.{kept-counts, kept-results, shape_answer, tests_answer, has_room, done_answer, done_counts, done_results}
use Rattle.page.proofs.run_page.Goals as goal

pub page_tests-requires : goal.page_tests-requires
page_tests-requires c = (docket_sound c.in-Ok.docket).limits.states_least

pub returns-in_err-page_tests : goal.returns-in_err-page_tests
returns-in_err-page_tests c =
    let said : Err c.in_err-page_tests.field-0.0 ≡ page_of c.args.docket.now c.args.counts.now c.args.results.now =
    sym c.in_err-page_tests.was ∙ tests_answer _ _ _ _ c.read_shape-read.ensures.shape c.in-Ok.docket c.in-Ok.is _ c.page_tests.ensures in
    let e : c.from_residual.result ≡ Err c.in_err-page_tests.field-0.0 = search rules in
    record { answer = e ∙ said; counts = kept-counts _ _ _ _ _ said; results = kept-results _ _ _ _ _ said }

pub run_groups-requires : goal.run_groups-requires
run_groups-requires c =
    record { room = has_room _ _ _ _ c.read_shape-read.ensures.shape c.in-Ok.docket c.in-Ok.is _ c.page_tests.ensures c.in_ok-page_tests.was }

pub returns : goal.returns
returns c =
    let ran = c.run_groups.ensures in
    record {
      answer = done_answer _ _ _ _ c.read_shape-read.ensures.shape c.in-Ok.docket c.in-Ok.is _ c.page_tests.ensures c.in_ok-page_tests.was;
      counts =
          done_counts _ _ _ _ c.read_shape-read.ensures.shape c.in-Ok.docket c.in-Ok.is _ c.page_tests.ensures c.in_ok-page_tests.was
          (search rules) _ _ ran.counts;
      results =
          done_results _ _ _ _ c.read_shape-read.ensures.shape c.in-Ok.docket c.in-Ok.is _ c.page_tests.ensures c.in_ok-page_tests.was
          (search rules) _ _ ran.results;
    }

pub returns-in_default : goal.returns-in_default
returns-in_default c =
    let said =
    shape_answer _ c.args.counts.now c.args.results.now _ c.read_shape-read.ensures.shape _ (passed_back _ _ _ c.in_default.is c.refusal_of.ensures) in
    record { answer = said; counts = kept-counts _ _ _ _ _ said; results = kept-results _ _ _ _ _ said }
