-- Definitions for private functions and proofs alone. No public contract uses them.
pub mod Fault
pub mod Kinds
pub mod Pairs
pub mod Policy
