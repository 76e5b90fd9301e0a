-- What private contracts cite.
pub mod Posts
pub mod Heard
pub mod Workers
pub mod Glances
