-- The files of this crate's definitions.
pub mod Decks
pub mod Named
pub mod Reading
pub mod Text
pub mod Internal
pub mod Words
