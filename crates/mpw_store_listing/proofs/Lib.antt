-- The files of this crate's lemmas.
pub mod ListingLemmas
pub mod PartLemmas
