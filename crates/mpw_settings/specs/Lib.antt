-- The files of this crate's definitions.
pub mod Forms
pub mod Settings
