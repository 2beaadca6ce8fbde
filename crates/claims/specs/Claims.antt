-- What is proved: begin here. Statements only. The record Claims has one field for each subject; the statements of a subject
-- stand in a file of its own, those about dockets in OfDocket.antt, those about the writer in OfWriter.antt, those about the
-- order of rules in OfOrder.antt, those about the number of pairs in OfPairs.antt, those about versions in OfVersions.antt, those
-- about pages in OfPage.antt, those about totals in OfTotals.antt, those about claim sheets in OfSheet.antt, and the proofs in
-- proofs/, in a folder for each file.
use Rattle.std.specs.Prelude.{List, ℕ}
use Rattle.claims.specs.OfDocket.{OfDocket}
use Rattle.claims.specs.OfWriter.{OfWriter}
use Rattle.claims.specs.OfOrder.{OfOrder}
use Rattle.claims.specs.OfPairs.{OfPairs}
use Rattle.claims.specs.OfVersions.{OfVersions}
use Rattle.claims.specs.OfPage.{OfPage}
use Rattle.claims.specs.OfTotals.{OfTotals}
use Rattle.claims.specs.OfSheet.{OfSheet}

-- The claims, one field for each subject.
pub record Claims : Type 0 where
  -- Of every docket: of its bytes b, whatever they are.
  pub of_docket : (b : List ℕ) → OfDocket b
  -- Of the writer, whatever the version, the sections and the output are.
  pub of_writer : OfWriter
  -- Of the order of rules, in which every docket of version 2 that passes tests 1 to 8 has them.
  pub of_order : OfOrder
  -- Of the number of pairs that the can-act call answers.
  pub of_pairs : OfPairs
  -- Of dockets of version 1 and the same in version 2.
  pub of_versions : OfVersions
  -- Of the call that runs the groups of a page.
  pub of_page : OfPage
  -- Of the sheet of exact totals, which the program tally prints.
  pub of_totals : OfTotals
  -- Of claim sheets, which say what a vote decides.
  pub of_sheet : OfSheet
