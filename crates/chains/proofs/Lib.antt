pub mod Arrows
pub mod Fronts
