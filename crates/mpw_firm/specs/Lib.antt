-- The files of this crate's definitions.
pub mod Came
pub mod Counts
pub mod Drawings
pub mod Faulty
pub mod Grids
pub mod Held
pub mod Keys
pub mod Ranges
pub mod Room
pub mod Shown
pub mod Stitched
pub mod Times
pub mod Uses
