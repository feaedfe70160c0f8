-- The files of this crate's lemmas.
pub mod Tests
pub mod Shapes
pub mod Flat
pub mod Cores
pub mod Made
pub mod Edges
pub mod Unique
pub mod Filled
pub mod Areas
