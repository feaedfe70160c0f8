-- The files of this crate's lemmas.
mod AloneLemmas
mod FirstLemmas
mod TileLemmas
mod ListLemmas
mod GroupLemmas
mod GroupOwn
mod GroupFirsts
