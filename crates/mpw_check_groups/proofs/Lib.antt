-- The files of this crate's lemmas.
mod Staying
mod Named
mod Squared
mod Touched
mod Merging
mod Grouped
mod Owning
mod Ruled
