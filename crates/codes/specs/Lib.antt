-- Codes: the numbers that C is handed for each answer, believed. Codes/Laws: these numbers, by
-- the cases of the answer.
pub mod Codes
