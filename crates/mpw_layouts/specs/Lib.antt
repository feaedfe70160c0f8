-- The files of this crate's definitions.
pub mod Layouts
pub mod Internal
