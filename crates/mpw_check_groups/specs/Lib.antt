-- The files of this crate's definitions.
pub mod Layers
pub mod Parts
pub mod Joined
pub mod Internal
