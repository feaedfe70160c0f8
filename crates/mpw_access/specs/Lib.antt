-- The files of this crate's definitions.
pub mod Guard
pub mod Seen
