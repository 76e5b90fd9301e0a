pub mod Outcomes
pub mod Records
pub mod Solving
pub mod Summing
