pub mod Ranges
pub mod Cells
pub mod LawAnswers
pub mod Landing
pub mod CostsMade
pub mod Lined
pub mod Counting
pub mod Standing
