-- The files of this crate's definitions.
pub mod Answer
pub mod Kept
pub mod Internal
