-- Code: sets of numbers below 64 as the functions of this crate give them. Code/Laws: what the functions and their
-- callers need.
pub mod Code
