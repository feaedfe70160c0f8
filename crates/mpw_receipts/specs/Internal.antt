-- Definitions for private functions and proofs alone. No public contract uses them.
pub mod Moves
pub mod Naming
pub mod Rule
pub mod Seats
pub mod Views
