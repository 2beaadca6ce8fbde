pub mod Active
pub mod Handover
pub mod Lists
pub mod Rank
