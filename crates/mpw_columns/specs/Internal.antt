-- Definitions for private functions and proofs. No public contract refers to them.
pub mod Bands
pub mod Blocks
pub mod Checked
pub mod Counted
pub mod Firsts
pub mod Found
pub mod Like
pub mod Listed
pub mod Pieces
