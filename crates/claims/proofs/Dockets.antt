pub mod OneLayer
