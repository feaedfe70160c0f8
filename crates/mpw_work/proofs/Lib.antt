-- The files of this crate's lemmas.
pub mod ByLayer
pub mod Meeting
pub mod Adding
pub mod RunsMeet
pub mod Serving
pub mod Collected
