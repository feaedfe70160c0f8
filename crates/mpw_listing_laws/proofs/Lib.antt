-- The files of this crate's lemmas.
pub mod Alike
pub mod Handled
pub mod MarkerLines
pub mod MovedSteps
pub mod Moving
pub mod OneListing
pub mod Places
pub mod Reading
