pub mod ShapeLaws
pub mod MarkLaws
pub mod SoundLaws
