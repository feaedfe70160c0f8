-- The files of this crate's lemmas.
pub mod Indexed
pub mod TextPoints
