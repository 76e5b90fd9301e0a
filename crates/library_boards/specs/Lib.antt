pub mod Calls
pub mod Givens
pub mod Grains
pub mod Handles
pub mod Jobs
pub mod Members
