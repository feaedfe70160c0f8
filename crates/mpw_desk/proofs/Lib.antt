-- The files of this crate's lemmas.
pub mod Adding
pub mod Answering
pub mod Coming
pub mod Endings
pub mod Growing
pub mod Hinting
pub mod Legality
pub mod Locking
pub mod Numbering
pub mod Parting
pub mod Receiving
pub mod Sums
pub mod Working
