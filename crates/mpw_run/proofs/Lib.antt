-- The files of this crate's lemmas.
pub mod Exactness
pub mod TileLists
pub mod Next
pub mod Opened
pub mod Changes
pub mod Books
pub mod Uniting
pub mod Joining
pub mod Answering
pub mod ExactPlane
pub mod Insertion
