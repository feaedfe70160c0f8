-- The files of this crate's definitions.
pub mod CheckingLaws
pub mod LayoutLaws
pub mod ListingLaws
pub mod PlacingLaws
pub mod Readable
pub mod Requested
pub mod RunLaws
pub mod SignOffLaws
pub mod Signing
pub mod WaferLaws
pub mod WaiverLaws
pub mod WorkLaws
