pub mod Scan
pub mod Orders
pub mod Parents
pub mod Spelling
