-- The files of this crate's definitions.
pub mod Seen
pub mod Internal
