-- The files of this crate's lemmas.
pub mod Leaving
pub mod Parts
