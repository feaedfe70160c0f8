-- The files of this crate's lemmas.
mod Escaped
mod Exact
pub mod First
pub mod Rows
