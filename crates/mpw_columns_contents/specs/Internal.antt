-- Definitions for private functions and proofs. No public contract refers to them.
pub mod Making
pub mod Opening
pub mod Own
pub mod Moving
pub mod Fitting
pub mod Layers
pub mod Held
