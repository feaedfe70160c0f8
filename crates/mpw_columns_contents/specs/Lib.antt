-- The files of this crate's definitions.
pub mod Things
pub mod Contents
pub mod Boxes
pub mod Displaced
pub mod Codes
pub mod Internal
