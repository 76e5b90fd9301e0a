pub mod Beginnings
pub mod Plain
