-- How far a replay has come, and what threads give back, for the contracts of their parts.
pub mod Progress
pub mod Obeying
pub mod Sharing
pub mod Teams
pub mod Printing
pub mod Reading
pub mod Hearing
pub mod Underway
