-- The files of this crate's lemmas.
pub mod AnsweringLemmas
pub mod SettingsLemmas
mod ReportLemmas
