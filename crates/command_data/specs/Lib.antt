pub mod CellLists
pub mod Line
pub mod Manner
