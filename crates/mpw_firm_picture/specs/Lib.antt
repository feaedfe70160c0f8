-- The files of this crate's definitions.
pub mod Density
pub mod Drawn
pub mod Internal
pub mod Left
pub mod Looks
pub mod Marked
pub mod Parts
pub mod Patterns
pub mod Rows
pub mod Sizes
pub mod Text
pub mod Titles
pub mod Windows
