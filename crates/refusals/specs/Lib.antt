-- Refusal: a refusal as the claims have it. Code: what serves the functions of this crate.
pub mod Refusal
pub mod Code
