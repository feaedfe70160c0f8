-- The files of this crate's lemmas.
pub mod Order
mod Referred
pub mod Marked
mod Gathered
mod Grouped
pub mod Joins
pub mod Unique
pub mod RunThrough
mod Maximal
mod Found
mod Shared
mod Filled
