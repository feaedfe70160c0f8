-- The files of this crate's lemmas.
pub mod Near
pub mod Scale
pub mod Signs
