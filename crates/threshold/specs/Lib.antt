-- Numbers: the numbers and the leaves of a claim sheet, over its bytes. Code: what the functions answer. Laws stand below them
-- in Laws.
pub mod Numbers
pub mod Code
