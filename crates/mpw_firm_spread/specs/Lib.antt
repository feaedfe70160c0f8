-- The files of this crate's definitions.
pub mod Ranges
pub mod Spread
