-- The files of this crate's lemmas.
pub mod Adding
pub mod Counted
pub mod Turned
pub mod Unlike
pub mod Windows
