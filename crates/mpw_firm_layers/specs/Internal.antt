-- Definitions for private functions and proofs. No public contract refers to them.
pub mod Values
pub mod Counts
pub mod Gathered
