-- The files of this crate's lemmas.
pub mod ReadingLemmas
pub mod PlacementLemmas
pub mod KeyLemmas
mod LastWord
