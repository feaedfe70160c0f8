-- The files of this crate's definitions.
pub mod Changes
pub mod Faults
pub mod Reading
pub mod Entries
pub mod Checkpoint
pub mod Status
pub mod Terms
