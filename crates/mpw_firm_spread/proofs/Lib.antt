-- The files of this crate's lemmas.
mod Listed
mod Made
mod Reach
mod Shares
mod Zipped
