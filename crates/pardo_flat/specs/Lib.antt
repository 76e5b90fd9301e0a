pub mod Statements
pub mod Layouts
pub mod Flat
pub mod Inner
