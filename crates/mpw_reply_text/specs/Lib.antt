-- The files of this crate's definitions.
pub mod Lines
pub mod Reply
