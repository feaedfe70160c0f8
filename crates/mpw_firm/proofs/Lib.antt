-- The lemmas of the program that checks a cell.
mod Capped
pub mod Flat
pub mod HeldTexts
pub mod ListedWholes
