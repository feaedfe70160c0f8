-- The files of this crate's lemmas.
pub mod Parts
pub mod Halving
pub mod Rows
