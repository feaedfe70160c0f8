-- The files of this crate's lemmas.
pub mod AddingLemmas
pub mod GoingOnLemmas
pub mod OutcomeLemmas
