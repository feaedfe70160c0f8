-- The lemmas about listings.
mod Exact
mod First
mod Joined
mod Rows
mod Whole
