-- The files of this crate's definitions.
pub mod Edges
pub mod Steps
pub mod Pieces
pub mod Laws
pub mod Computed
pub mod Internal
