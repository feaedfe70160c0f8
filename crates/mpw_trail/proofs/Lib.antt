-- The files of this crate's lemmas.
mod EntryLemmas
pub mod FirstLineLemmas
mod TrailLemmas
