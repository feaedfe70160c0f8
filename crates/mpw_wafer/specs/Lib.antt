-- The files of this crate's definitions.
pub mod Laws
pub mod Run
pub mod Wafers
pub mod Internal
