-- The files of this crate's definitions.
pub mod Calls
pub mod Internal
pub mod Laws
pub mod Owner
pub mod Values
