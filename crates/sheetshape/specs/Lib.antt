-- SheetShape: the bytes of a claim sheet, and test 15. Code: laws that serve the functions.
pub mod SheetShape
pub mod Code
