-- The files of this crate's definitions.
pub mod Element
pub mod Places
pub mod Library
pub mod Coordinates
pub mod Internal
