pub mod Counts
pub mod Logged
pub mod Sounds
