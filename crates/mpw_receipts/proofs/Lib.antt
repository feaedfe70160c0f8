-- The files of this crate's lemmas.
mod Seats
pub mod Calls
pub mod Adding
mod Handing
pub mod Allowed
pub mod Known
