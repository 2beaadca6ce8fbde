-- Code: what the functions on lent counts answer, beside theory's own definitions. Code/Laws: what the functions and
-- their callers need.
pub mod Code
