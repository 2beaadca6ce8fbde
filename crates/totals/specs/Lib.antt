-- Totals: what the call answers, believed. Code: what serves the functions of this crate. Laws stand in proofs/,
-- computed cases in Samples of `claims`.
pub mod Totals
pub mod Code
