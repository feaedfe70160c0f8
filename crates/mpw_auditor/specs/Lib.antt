-- The files of this crate's definitions.
pub mod Answering
pub mod Forms
pub mod Reporting
pub mod Settings
pub mod Status
pub mod Telling
