pub mod Machine
pub mod Instructions
pub mod Turns
