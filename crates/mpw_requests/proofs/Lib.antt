-- The files of this crate's lemmas.
pub mod DigestLemmas
pub mod PartLemmas
