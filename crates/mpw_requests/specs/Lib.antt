-- The files of this crate's definitions.
pub mod Digest
pub mod Layouts
pub mod Needs
pub mod Parts
pub mod Policy
pub mod Run
pub mod SignOff
pub mod Table
pub mod Wafer
pub mod Words
