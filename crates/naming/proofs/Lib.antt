pub mod Cells
pub mod Digits
pub mod Rows
pub mod LineFinding
pub mod ArrayNames
pub mod Stopping
pub mod LoopRounds
