-- The files of this crate's definitions.
pub mod Keys
pub mod Lengths
pub mod Lines
pub mod Limited
pub mod Listing
