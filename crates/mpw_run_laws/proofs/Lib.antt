-- The files of this crate's lemmas.
pub mod Calls
pub mod Counted
pub mod Followed
pub mod Histories
pub mod Moves
pub mod RestartLemmas
pub mod RightLemmas
pub mod Told
pub mod WindowLemmas
