-- The files of this crate's definitions.
pub mod Drawn
pub mod Tiled
pub mod Lists
pub mod Internal
