-- For private contracts alone.
pub mod Refusals
pub mod Places
pub mod Finding
pub mod Rounds
