-- The files of this crate's definitions.
pub mod Decks
pub mod Texts
pub mod Units
