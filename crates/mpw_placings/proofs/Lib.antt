-- The files of this crate's lemmas.
pub mod Inverted
pub mod Keeping
pub mod Maps
pub mod Parts
pub mod Placing
pub mod Tests
