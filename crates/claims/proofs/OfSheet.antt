pub mod Proved
pub mod Shape
