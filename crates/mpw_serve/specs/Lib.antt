-- The files of this crate's definitions.
pub mod Serving
pub mod OwnDesk
pub mod Working
pub mod Script
pub mod Status
pub mod Internal
pub mod Terminal
