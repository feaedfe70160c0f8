-- The files of this crate's definitions.
pub mod Layers
pub mod Meeting
pub mod Least
pub mod Links
pub mod Name
pub mod Names
pub mod Placing
pub mod Plane
