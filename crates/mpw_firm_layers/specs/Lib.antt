-- The files of this crate's definitions.
pub mod Layers
pub mod Unnamed
pub mod Internal
