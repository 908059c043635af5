-- The definitions that the theorems cite, from trees up.
pub mod Tree
pub mod Rig
pub mod Change
pub mod Fs
pub mod Manifest
pub mod Package
pub mod Footprint
pub mod Order
pub mod Beginning
pub mod Judgement
pub mod Trace
pub mod Room
pub mod Bill
pub mod Limits
pub mod Start
pub mod Samples
