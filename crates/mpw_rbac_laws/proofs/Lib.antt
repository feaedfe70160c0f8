-- The files of this crate's lemmas.
pub mod AcceptedLemmas
pub mod ActiveLemmas
pub mod ApartLemmas
pub mod DenialLemmas
pub mod Denials
pub mod ExistingLemmas
pub mod KeptSessions
pub mod KeptTables
pub mod LawLemmas
pub mod MadeSets
pub mod MoreRoles
pub mod SoundRows
pub mod TrimLemmas
