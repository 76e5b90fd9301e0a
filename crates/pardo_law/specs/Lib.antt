pub mod Locals
pub mod Theorem
pub mod Between
pub mod Flattening
pub mod Counted
pub mod FlatLevels
pub mod Untested
