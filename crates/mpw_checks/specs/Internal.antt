-- Definitions for private functions and proofs. No public contract refers to them.
pub mod Across
pub mod Cells
pub mod Strips
