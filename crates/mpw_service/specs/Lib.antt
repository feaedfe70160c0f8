-- The files of this crate's definitions.
pub mod Served
pub mod Staff
pub mod Status
pub mod Turns
