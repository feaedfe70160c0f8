-- The files of this crate's lemmas.
mod LayoutLemmas
mod SightLemmas
