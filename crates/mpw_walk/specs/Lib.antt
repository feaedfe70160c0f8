-- The files of this crate's definitions.
pub mod Turns
pub mod Window
pub mod Frames
pub mod Near
pub mod Way
pub mod Walk
pub mod Roots
pub mod Missed
pub mod Internal
