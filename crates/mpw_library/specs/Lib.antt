-- The files of this crate's definitions.
pub mod Grammar
pub mod Derivation
pub mod Fronts
pub mod Text
pub mod Internal
