-- The files of this crate's definitions.
pub mod Signing
pub mod Waivers
