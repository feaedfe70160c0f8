-- The files of this crate's definitions.
pub mod Blocks
pub mod Entries
pub mod Trail
pub mod FirstLineText
pub mod RequestWords
pub mod EntryText
pub mod Internal
