pub mod Bytes
pub mod Faults
pub mod Lexing
pub mod Rows
pub mod Spots
pub mod Sources
pub mod Cover
