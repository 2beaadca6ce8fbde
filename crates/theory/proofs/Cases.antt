-- Cases of the definitions, most of them computed. P1 to P12 are the samples of document 01. Tables has laws that serve
-- Witnesses.
pub mod Order
pub mod Protocol
pub mod Pairs
pub mod Ladder
pub mod Tree
pub mod Remainder
pub mod Fixed
pub mod Potential
pub mod Sheet
pub mod Machine
pub mod Starts
pub mod Tables
pub mod Witnesses
