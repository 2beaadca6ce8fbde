-- All claims are proved. Assumes nothing.
use Rattle.claims.proofs.OfDocket.Proved.{of_docket}
use Rattle.claims.proofs.OfWriter.Proved.{of_writer}
use Rattle.claims.proofs.OfOrder.Proved.{of_order}
use Rattle.claims.proofs.OfPairs.Proved.{of_pairs}
use Rattle.claims.proofs.OfVersions.Proved.{of_versions}
use Rattle.claims.proofs.OfPage.Proved.{of_page}
use Rattle.claims.proofs.OfTotals.Proved.{of_totals}
use Rattle.claims.proofs.OfSheet.Proved.{of_sheet}
use Rattle.claims.specs.Claims.{Claims}

pub claims : Claims
claims = record {
  of_docket = of_docket;
  of_writer = of_writer;
  of_order = of_order;
  of_pairs = of_pairs;
  of_versions = of_versions;
  of_page = of_page;
  of_totals = of_totals;
  of_sheet = of_sheet;
}
