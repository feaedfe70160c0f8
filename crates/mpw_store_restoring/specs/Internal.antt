-- What private functions and proofs alone need: no public contract speaks of it.
pub mod Working
