-- The files of this crate's definitions.
pub mod Parts
pub mod Text
pub mod Reading
pub mod Stitching
pub mod Laws
pub mod Internal
