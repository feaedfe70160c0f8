-- Definitions for private functions and proofs. No public contract refers to them.
pub mod Grid
pub mod Listing
pub mod Placed
