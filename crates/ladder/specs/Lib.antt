-- Code: what serves the functions of this crate, with its laws; the tests themselves are theory's. Samples: computed cases.
pub mod Code
pub mod Samples
