pub mod Consensus
pub mod Laws
pub mod Traps
