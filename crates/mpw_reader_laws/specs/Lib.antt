-- The files of this crate's definitions.
pub mod FirstFault
pub mod Changed
