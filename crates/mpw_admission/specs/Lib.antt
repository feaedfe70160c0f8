-- The files of this crate's definitions.
pub mod Drain
pub mod Login
pub mod Pail
pub mod Places
pub mod Retries
pub mod Stage
pub mod Visit
