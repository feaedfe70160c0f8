-- The files of this crate's lemmas.
mod Least
