-- The files of this crate's lemmas.
pub mod Numbers
pub mod StoredLemmas
