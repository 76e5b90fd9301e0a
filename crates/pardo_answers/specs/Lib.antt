pub mod Language
pub mod Named
pub mod Records
pub mod Laws
pub mod Costs
pub mod Inner
pub mod Runs
pub mod Traces
