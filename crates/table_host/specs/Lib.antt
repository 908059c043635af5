pub mod Records
pub mod Places
pub mod Tables
pub mod Kept
pub mod PlacesLemmas
pub mod Soundness
