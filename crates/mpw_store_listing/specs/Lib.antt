-- The files of this crate's definitions.
pub mod Listing
pub mod Part
pub mod Checking
pub mod Failing
pub mod Payload
