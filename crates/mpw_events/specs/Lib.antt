-- The files of this crate's definitions.
pub mod GoingOn
pub mod History
pub mod Keeping
pub mod PolicyRows
pub mod Restoring
pub mod Step
