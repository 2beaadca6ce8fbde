pub mod CodeLaws
pub mod PageLaws
