-- Definitions for private functions and proofs. No public contract refers to them.
pub mod Drawn
pub mod First
pub mod Tiled
pub mod Groups
