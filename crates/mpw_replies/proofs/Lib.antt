-- The files of this crate's lemmas.
mod ListingLemmas
mod MarkerLemmas
pub mod NamesRise
mod RankLemmas
mod TrailLemmas
pub mod RowParts
