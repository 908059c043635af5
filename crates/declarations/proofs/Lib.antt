pub mod Spares
pub mod Blocks
pub mod Checks
pub mod Titles
