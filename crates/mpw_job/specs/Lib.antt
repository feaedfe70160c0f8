-- The files of this crate's definitions.
pub mod Layers
pub mod Answers
pub mod Layout
pub mod Computed
pub mod Laws
pub mod Jobs
pub mod Carried
pub mod Internal
