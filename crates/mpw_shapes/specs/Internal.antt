-- Definitions for private functions and proofs. No public contract refers to them.
pub mod Edges
pub mod Near
pub mod Rows
pub mod Turned
pub mod Wire
