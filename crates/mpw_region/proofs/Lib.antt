-- The files of this crate's lemmas.
pub mod Orderings
pub mod Order
pub mod Held
pub mod Adding
pub mod Joins
pub mod Active
pub mod Merging
pub mod Borders
pub mod Sweeping
