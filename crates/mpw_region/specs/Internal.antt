-- Definitions for private functions and proofs. No public contract refers to them, except that those of `laws::Sweep` refer to its `Sweep`.
pub mod Order
pub mod Runs
pub mod Sweep
pub mod Swept
