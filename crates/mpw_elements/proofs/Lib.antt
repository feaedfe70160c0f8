-- The files of this crate's lemmas.
pub mod DerivedElements
pub mod DerivedFields
pub mod DerivedReferences
pub mod DerivedShapes
pub mod Fields
pub mod Numbers
pub mod Sequences
pub mod Shapes
pub mod Steps
