-- The files of this crate's definitions.
pub mod Commands
pub mod Given
pub mod OutFiles
