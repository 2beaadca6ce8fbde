-- Definitions stand in specs/X.antt, their laws in proofs/X/, computed cases of them in proofs/Cases/X.antt. What is proved
-- in the end is in Claims.
pub mod Bool
pub mod Below
pub mod Order
pub mod Judge
pub mod Weigh
pub mod Protocol
pub mod Pairs
pub mod Ladder
pub mod Facts
pub mod Leaf
pub mod Remainder
pub mod Tree
pub mod Subtree
pub mod Potential
pub mod Sheet
pub mod Starts
pub mod Machine
pub mod Claims
