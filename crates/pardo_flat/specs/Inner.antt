pub mod Splits
pub mod Flats
