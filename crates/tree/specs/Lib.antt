-- Code: what the functions on a tree answer. Code/Laws: what the functions and their callers need.
-- Samples: computed cases.
pub mod Code
pub mod Samples
