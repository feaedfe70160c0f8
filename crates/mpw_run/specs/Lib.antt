-- The files of this crate's definitions.
pub mod Same
pub mod Stitching
pub mod Run
pub mod Step
pub mod Prepared
pub mod Laws
pub mod Internal
