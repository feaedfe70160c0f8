-- The files of this crate's definitions.
pub mod Finished
pub mod Hints
pub mod Internal
pub mod Legal
pub mod Locked
pub mod Numbers
pub mod Passes
pub mod Serving
pub mod Steps
pub mod Values
