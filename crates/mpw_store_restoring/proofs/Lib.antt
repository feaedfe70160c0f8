-- The files of this crate's lemmas.
pub mod Outcomes
pub mod Again
pub mod Accepted
pub mod Planned
pub mod Finishing
pub mod RowLemmas
pub mod SessionLemmas
pub mod ChangeLemmas
