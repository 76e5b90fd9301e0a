pub mod Lines
pub mod LinesAfter
pub mod TextLines
pub mod Words
pub mod Reads
