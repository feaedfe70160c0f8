-- The files of definitions of runs.
pub mod Answers
pub mod Checking
pub mod Laws
