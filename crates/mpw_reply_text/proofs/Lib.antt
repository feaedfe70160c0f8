-- The files of this crate's lemmas.
pub mod WritingLemmas
mod ReplyLemmas
mod ListingLemmas
