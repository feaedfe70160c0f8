-- The files of this crate's definitions.
pub mod Content
pub mod Escapes
pub mod Lengths
pub mod Parts
pub mod Report
