-- The files of this crate's definitions.
pub mod Areas
pub mod Details
pub mod Faults
pub mod LeavingOut
pub mod Lifting
