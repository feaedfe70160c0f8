-- The files of definitions for private functions and proofs.
pub mod Counted
