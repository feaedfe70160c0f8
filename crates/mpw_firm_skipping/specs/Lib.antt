-- The files of this crate's definitions.
pub mod Before
pub mod Cuts
pub mod Elements
pub mod Found
pub mod Names
pub mod Structures
pub mod Internal
