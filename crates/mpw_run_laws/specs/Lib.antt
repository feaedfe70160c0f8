-- The files of this crate's definitions.
pub mod Calls
pub mod Finishing
pub mod Restarts
pub mod Right
pub mod Windows
