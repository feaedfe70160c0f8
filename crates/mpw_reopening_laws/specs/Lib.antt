-- The files of this crate's definitions.
pub mod Leading
pub mod ReopeningLaws
