-- The lemmas of this crate.
mod LeftOut
mod Levels
mod Ways
