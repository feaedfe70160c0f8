-- The files of this crate's definitions.
pub mod Staff
pub mod Status
pub mod Stored
