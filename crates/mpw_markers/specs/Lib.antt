-- The files of this crate's definitions.
pub mod Met
pub mod Markers
pub mod Order
pub mod Book
pub mod Stitched
pub mod Whole
pub mod Maximal
pub mod Laws
pub mod Internal
pub mod Origins
