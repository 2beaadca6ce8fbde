-- Code: what the words of the struct Facts stand for. Code/Laws: what the methods and their callers need.
pub mod Code
