-- The files of this crate's definitions.
pub mod Grid
pub mod GridLaws
pub mod Plan
pub mod Laws
pub mod Listing
pub mod Placed
pub mod Shown
pub mod Snapshots
pub mod Internal
