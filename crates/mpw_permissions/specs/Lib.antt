-- The files of this crate's definitions.
pub mod Grant
pub mod Internal
pub mod Permissions
