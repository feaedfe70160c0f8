-- Definitions for private functions and proofs. No public contract refers to them.
pub mod Order
pub mod Places
pub mod Runs
pub mod Search
