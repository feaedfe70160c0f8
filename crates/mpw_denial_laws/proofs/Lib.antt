-- The files of this crate's lemmas.
pub mod Blind
