-- The files of this crate's definitions.
pub mod Layers
pub mod Sides
pub mod Tops
