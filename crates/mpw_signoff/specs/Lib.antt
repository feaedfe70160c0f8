-- The files of this crate's definitions.
pub mod Named
pub mod SigningOff
pub mod WaiverLines
pub mod Internal
