-- The files of this crate's definitions.
pub mod Boundary
pub mod Element
pub mod Path
pub mod Placed
pub mod Internal
