-- The files of this crate's definitions.
pub mod Apart
pub mod Clean
pub mod Questions
pub mod Secrecy
pub mod Views
