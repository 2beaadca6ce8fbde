-- Code: what a tree refutes, and what one node comes to, over the sections and words that the code has.
-- Code/Laws: what the functions and their callers need.
pub mod Code
