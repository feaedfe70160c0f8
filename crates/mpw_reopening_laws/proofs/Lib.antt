-- The files of this crate's lemmas.
pub mod RowFolds
pub mod StoredOutcomes
pub mod Sound
pub mod Working
pub mod EndedSessions
pub mod Rows
pub mod Storing
pub mod Leads
pub mod ReopeningLemmas
