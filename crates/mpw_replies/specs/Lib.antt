-- The files of this crate's definitions.
pub mod Listing
pub mod Ranks
pub mod Rows
pub mod Shapes
pub mod Sight
pub mod Told
pub mod Trail
pub mod FirstLines
pub mod Views
pub mod Internal
