-- The lemmas about the parts that are left out.
mod Finding
mod Passing
pub mod Reaching
