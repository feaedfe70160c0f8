-- The files of this crate's lemmas.
pub mod AnswerLemmas
pub mod HistoryLemmas
pub mod RefusalLemmas
pub mod KeepingLemmas
mod CountLemmas
pub mod OutcomeLemmas
mod PlacingLemmas
mod ReadyLemmas
pub mod SettlingLemmas
