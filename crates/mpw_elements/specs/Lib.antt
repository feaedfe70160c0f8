-- The files of this crate's definitions.
pub mod Reading
pub mod Values
pub mod Grammar
pub mod Derivation
pub mod Internal
