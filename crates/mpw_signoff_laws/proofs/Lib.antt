-- The files of this crate's lemmas.
pub mod Places
pub mod Passing
pub mod SignedOnce
pub mod Seconds
