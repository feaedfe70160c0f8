-- What private functions and proofs alone need: no public contract speaks of it.
pub mod Reading
pub mod Writing
pub mod Stitching
