-- The files of this crate's lemmas.
pub mod BlockLemmas
pub mod BucketLemmas
pub mod GrantedLemmas
pub mod HeldLemmas
pub mod NamedLemmas
pub mod ObjectLemmas
