-- The files of this crate's lemmas.
pub mod Tests
pub mod Region
pub mod Found
pub mod Bounding
pub mod Pairing
pub mod Maximal
pub mod Window
pub mod Computed
