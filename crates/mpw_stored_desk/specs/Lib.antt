-- The files of this crate's definitions.
pub mod Reopening
pub mod Counting
pub mod Internal
pub mod Ending
pub mod Opening
pub mod Serving
pub mod Status
