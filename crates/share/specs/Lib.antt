-- Code: what the functions answer. Laws stand below it in Laws.
pub mod Code
