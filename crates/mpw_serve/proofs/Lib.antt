-- The files of this crate's lemmas.
mod BatchLemmas
mod HandingLemmas
pub mod ServedLemmas
mod StatusLemmas
mod OwnDeskLemmas
mod ServingLemmas
