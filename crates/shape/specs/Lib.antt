-- Shape: tests 1 to 8. Sound: what a docket that passes them keeps. Code: what serves the functions of this crate.
-- Laws stand in proofs/, in ShapeLaws and SoundLaws (MarkLaws: tests 7 and 8 by marks), computed cases in Samples.
pub mod Shape
pub mod Sound
pub mod Code
pub mod Samples
