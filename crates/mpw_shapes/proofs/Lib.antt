-- The files of this crate's lemmas.
pub mod Chains
pub mod Columns
pub mod Counts
pub mod Laid
pub mod Lists
pub mod NearLemmas
pub mod Order
pub mod Orientations
pub mod PlacedSteps
pub mod PlacedBoundary
pub mod PlacedPath
pub mod RowStates
pub mod RowSwept
pub mod Swept
pub mod TurnedRows
pub mod Whole
pub mod Wires
