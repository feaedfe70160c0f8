-- The files of this crate's definitions.
pub mod Squares
pub mod Runs
pub mod Banded
pub mod Exchange
pub mod Region
pub mod Internal
