pub mod Rows
pub mod Splits
pub mod Says
pub mod Items
