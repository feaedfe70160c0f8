-- The files of this crate's definitions.
pub mod FaultLines
pub mod Fronts
pub mod Looks
pub mod Notes
pub mod Seen
pub mod Sources
