-- Calls: what each call answers, believed. Code: what serves the functions of this crate. Code/Laws and Code/Runs: what
-- they need.
pub mod Calls
pub mod Code
