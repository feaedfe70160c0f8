-- Definitions for private functions and proofs. No public contract refers to them.
pub mod Passes
