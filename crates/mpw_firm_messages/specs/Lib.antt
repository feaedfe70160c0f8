-- The files of this crate's definitions.
pub mod Causes
pub mod Colons
pub mod Places
pub mod Said
pub mod Sentences
pub mod Status
pub mod Told
pub mod ToldFaults
pub mod ToldParts
