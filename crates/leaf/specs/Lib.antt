-- Leaf: test 11. Code: what the functions of the leaf rule and of the remainder rule answer. Laws stand below each in Laws.
-- Samples: computed cases.
pub mod Leaf
pub mod Code
pub mod Samples
