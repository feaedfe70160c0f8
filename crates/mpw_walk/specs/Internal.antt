-- Definitions for private functions and proofs. No public contract refers to them.
pub mod Extents
pub mod Frames
pub mod Named
pub mod Skips
pub mod Stack
pub mod Turns
pub mod Way
