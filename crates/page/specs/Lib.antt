-- Page: the call that runs the groups of a page, what it answers and what it leaves, believed. Code: what serves the functions
-- of this crate. Laws stand in proofs/, computed cases in Samples of `claims`.
pub mod Page
pub mod Code
