-- The files of this crate's definitions.
pub mod Restoring
pub mod Sessions
pub mod Internal
