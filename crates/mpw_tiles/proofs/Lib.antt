-- The files of this crate's lemmas.
pub mod Intervals
pub mod Cells
pub mod Cores
pub mod Windows
pub mod Reach
pub mod Scalars
pub mod Tiles
pub mod Added
pub mod Lists
pub mod Placed
pub mod Showing
pub mod Looking
pub mod Bounds
pub mod Told
mod Planes
