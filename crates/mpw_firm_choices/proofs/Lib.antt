-- The lemmas about the options of a check.
mod Names
