-- The files of this crate's lemmas.
pub mod Lines
pub mod Named
pub mod Words
