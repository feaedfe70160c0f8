-- Definitions for private functions and proofs. No public contract refers to them.
pub mod Building
pub mod Descent
pub mod Graph
pub mod Indexed
pub mod Limits
pub mod Outside
pub mod Places
pub mod SizeParts
pub mod Sizes
