-- The files of this crate's definitions.
pub mod Placed
pub mod Rows
pub mod Separation
pub mod Set
pub mod Internal
