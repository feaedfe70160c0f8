-- The files of this crate's lemmas.
pub mod ClosingLemmas
pub mod FoldingLemmas
pub mod ReopenLemmas
pub mod StopLemmas
pub mod ServingLemmas
pub mod EndingLemmas
