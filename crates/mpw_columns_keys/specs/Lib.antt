-- The files of this crate's definitions.
pub mod Columns
pub mod Firsts
pub mod Keys
pub mod Laws
pub mod Pieces
pub mod Internal
