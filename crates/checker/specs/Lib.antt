-- Check: the whole check. Its laws stand in Check/Laws.
pub mod Check
