-- The files of this crate's lemmas.
pub mod Boxes
pub mod Chains
pub mod LeastLemmas
pub mod Linked
pub mod Meets
pub mod NameLemmas
pub mod NamesLemmas
pub mod Scalars
pub mod Squares
pub mod Tests
pub mod Turns
pub mod Undone
