pub mod Faults
pub mod Kinds
pub mod Reading
pub mod Repeating
pub mod Tokens
pub mod Parts
pub mod Picking
pub mod Errors
