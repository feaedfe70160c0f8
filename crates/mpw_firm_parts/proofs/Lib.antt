-- The files of this crate's lemmas.
mod WordLemmas
mod KeyLemmas
mod AllOf
mod Splitting
mod Digests
mod Words
mod ReadBack
mod PartLemmas
mod Lists
mod Following
mod Ending
mod Subjects
mod Faults
mod Covered
mod Texts
mod Bound
mod Joining
