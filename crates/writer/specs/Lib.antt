-- Write: the writer, what it says and what it writes. Code: what serves the functions of this crate. Laws stand in proofs/,
-- computed cases in Samples.
pub mod Write
pub mod Code
pub mod Samples
