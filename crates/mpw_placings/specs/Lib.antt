-- The files of this crate's definitions.
pub mod Internal
pub mod Laws
pub mod Placements
pub mod Rows
