-- What private contracts cite.
pub mod Started
