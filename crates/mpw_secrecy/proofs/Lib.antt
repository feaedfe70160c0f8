-- The files of this crate's lemmas.
pub mod Answered
pub mod Books
pub mod Cells
pub mod Listings
pub mod Names
pub mod Parts
pub mod Places
pub mod Signers
pub mod SeenTests
pub mod Signing
pub mod Started
pub mod Waived
