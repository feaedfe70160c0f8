-- The files of this crate's definitions.
pub mod Keys
pub mod Names
pub mod Placement
pub mod Reading
pub mod Request
pub mod Words
pub mod Writing
pub mod Internal
