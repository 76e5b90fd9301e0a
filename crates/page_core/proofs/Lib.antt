mod Buffers
pub mod Playing
mod Fitting
mod Loads
mod Counting
mod Noting
pub mod ReadCells
mod Telling
mod ExerciseTelling
mod Failing
pub mod Unset
