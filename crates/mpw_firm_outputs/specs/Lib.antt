-- The files of this crate's definitions.
pub mod Apart
pub mod Counted
pub mod Internal
pub mod LeftOut
pub mod Outputs
pub mod Texts
pub mod Written
