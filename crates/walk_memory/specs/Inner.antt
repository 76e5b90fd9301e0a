-- What private contracts cite.
pub mod Posts
