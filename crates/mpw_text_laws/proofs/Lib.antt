-- The lemmas about listings and replies.
mod Lines
mod Replies
mod Touched
