-- The lemmas of this crate.
mod Counted
pub mod Growth
mod Separate
mod Unput
