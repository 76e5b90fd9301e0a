-- What private contracts alone cite.
pub mod Firsts
pub mod Found
pub mod Groups
pub mod Seen
pub mod Tallied
