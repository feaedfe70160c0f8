-- The files of this crate's lemmas.
pub mod Progress
pub mod Elements
pub mod Items
pub mod Libraries
pub mod Texts
pub mod Changed
pub mod Offsets
pub mod FirstFault
pub mod FirstRefused
pub mod Later
