-- Code: what serves the functions of this crate. The list of starts, which is believed, and what the next start is are theory's.
pub mod Code
