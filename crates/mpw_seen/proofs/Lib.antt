-- The files of this crate's lemmas.
pub mod Sums
pub mod Placed
pub mod Children
pub mod Nodes
pub mod Reaching
