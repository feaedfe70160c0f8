-- The files of this crate's lemmas.
pub mod Fronts
pub mod Sizes
