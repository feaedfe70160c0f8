-- The files of this crate's definitions.
pub mod Accepted
pub mod Existing
pub mod Laws
