-- The lemmas of this crate.
mod Fronts
