pub mod CodeLaws
pub mod TallyLaws
pub mod TotalsLaws
