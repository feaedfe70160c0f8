-- The files of this crate's definitions.
pub mod Access
pub mod Fault
pub mod Laws
pub mod Masked
pub mod Policy
pub mod Rows
pub mod Sound
pub mod Table
pub mod Internal
