-- The files of this crate's definitions.
pub mod Real
