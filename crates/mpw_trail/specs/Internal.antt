-- Definitions for private functions and proofs alone. No public contract uses them.
pub mod EntryWriter
