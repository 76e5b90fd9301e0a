pub mod Worlds
pub mod Standings
pub mod Runs
pub mod Interleavings
pub mod Outcomes
pub mod Ends
pub mod Laws
pub mod Inner
