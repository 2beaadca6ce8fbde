-- Bytes: numbers in a list of bytes. Format: the docket file, and what its sections stand for. Samples: dockets of both versions.
-- Code: what serves the functions of this crate. Laws stand in Bytes/Laws and Code/Laws.
pub mod Bytes
pub mod Format
pub mod Samples
pub mod Code
