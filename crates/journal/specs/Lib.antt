pub mod Held
pub mod Journals
pub mod Stand
