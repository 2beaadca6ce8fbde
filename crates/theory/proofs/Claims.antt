pub mod LayerWords
pub mod Layered
pub mod Proved
