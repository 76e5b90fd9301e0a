pub mod Refused
pub mod Texts
pub mod Waited
pub mod Judged
pub mod Planned
pub mod Sweeps
pub mod Unjudged
