-- The files of this crate's lemmas.
pub mod RunLemmas
pub mod AppendLemmas
pub mod CreateLemmas
pub mod RowLemmas
pub mod ReadLemmas
pub mod TakenLemmas
pub mod EntryLemmas
pub mod FaultLemmas
