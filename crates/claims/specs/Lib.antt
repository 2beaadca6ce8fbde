-- What is proved: Claims.antt has one field for each subject, OfDocket.antt the statements about dockets, OfWriter.antt those
-- about the writer, OfOrder.antt those about the order of rules, OfPairs.antt those about the number of pairs, OfVersions.antt
-- those about versions, OfPage.antt those about pages, OfTotals.antt those about totals, OfSheet.antt those about claim sheets. The
-- samples of documents 01 and 02 stand in Samples.antt. The proofs stand in proofs/, in a folder for each file.
pub mod OfDocket
pub mod OfWriter
pub mod OfOrder
pub mod OfPairs
pub mod OfVersions
pub mod OfPage
pub mod OfTotals
pub mod OfSheet
pub mod Claims
pub mod Dockets
pub mod Samples
