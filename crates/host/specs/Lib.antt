pub mod Faults
pub mod Kinds
pub mod Stores
pub mod Sound
pub mod Called
pub mod Opening
pub mod Checks
