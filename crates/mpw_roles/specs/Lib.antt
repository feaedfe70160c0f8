-- The files of this crate's definitions.
pub mod Decided
pub mod Hierarchy
pub mod Marks
pub mod Mask
pub mod Order
pub mod Places
pub mod Rows
pub mod Internal
