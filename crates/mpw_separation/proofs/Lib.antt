-- The files of this crate's lemmas.
pub mod BrokenLemmas
mod FormLemmas
pub mod NamedLemmas
pub mod PlacedLemmas
