pub mod Rules
pub mod Fits
pub mod Order
pub mod Comparing
pub mod Held
pub mod Texts
pub mod Faults
