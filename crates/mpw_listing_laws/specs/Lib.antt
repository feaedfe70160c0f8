-- The files of this crate's definitions.
pub mod Markers
pub mod Views
