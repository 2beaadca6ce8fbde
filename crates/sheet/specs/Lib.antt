-- Sheet: the check of a docket with its claim sheet. Code: what the functions answer beside it; laws stand below it in Laws. Samples: the
-- bytes of two sheets.
pub mod Sheet
pub mod Code
pub mod Samples
