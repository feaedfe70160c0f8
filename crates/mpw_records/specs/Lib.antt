-- The files of this crate's definitions.
pub mod Format
pub mod Records
pub mod Words
