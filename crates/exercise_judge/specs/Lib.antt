pub mod Trials
pub mod Verdicts
pub mod Wrongs
pub mod Tries
