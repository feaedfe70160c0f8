-- The files of this crate's definitions.
pub mod Strips
pub mod Internal
