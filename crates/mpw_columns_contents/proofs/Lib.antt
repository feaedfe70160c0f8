-- The files of this crate's lemmas.
pub mod Members
pub mod Windows
pub mod Adding
pub mod Lists
pub mod Steps
pub mod Opened
pub mod Missing
pub mod Read
pub mod Layouts
pub mod Held
pub mod Tops
pub mod Moved
pub mod Spans
pub mod Instances
pub mod Arrays
pub mod Coded
pub mod Layered
