pub mod Lines
pub mod Steps
pub mod Bounds
pub mod Rows
pub mod Cover
pub mod Only
