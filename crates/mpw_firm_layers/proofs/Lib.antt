-- The files of this crate's lemmas.
pub mod Placed
pub mod Values
pub mod Children
pub mod Counted
pub mod Gathering
pub mod Adding
