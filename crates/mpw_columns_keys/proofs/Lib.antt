-- The files of this crate's lemmas.
pub mod SameKey
pub mod KeyOrder
pub mod Ordered
pub mod Added
pub mod Room
pub mod Agree
pub mod FirstOf
pub mod Order
pub mod Runs
pub mod Exact
pub mod Made
